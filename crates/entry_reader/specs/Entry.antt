-- What the code's reader of an entry answers at a position of a log of this size. No promise names it.
use Rattle.std.specs.Prelude.{ℕ, Result, Option, Some, None}
use Rattle.refusals.specs.declared.Refusal.{Refusal}
use Rattle.numbers.specs.declared.Part.{Part}
use Rattle.numbers.specs.Field.{Parse}
use Rattle.numbers.specs.Position.{part_answer}
use Rattle.logs.specs.declared.Stamped.{Stamped}

-- an entry is held as it is
abbrev pub held_entry : Stamped → Stamped
held_entry x = x

abbrev pub entry_answer : ℕ → Parse Stamped → Result (Part Stamped) Refusal
entry_answer size p = part_answer held_entry size p

-- the stamp of the entry before, if there is one: whether there is, and the stamp
abbrev pub before_of : Option ℕ → ℕ
before_of None = 0
before_of (Some stamp) = 1

abbrev pub was_of : Option ℕ → ℕ
was_of None = 0
was_of (Some stamp) = stamp
