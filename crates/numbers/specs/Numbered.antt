-- What reading gives, with the number that C is told in the place of a refusal.
use Rattle.std.specs.Prelude.{ℕ}
use Rattle.refusals.specs.Numbers.{number_of}
use Rattle.numbers.specs.Field.{ParseBy, Parse, refused, accepted}

abbrev pub by_number : {A : Type 0} → Parse A → ParseBy ℕ A
by_number (refused e) = refused (number_of e)
by_number (accepted a rest) = accepted a rest
