-- What the code's readers answer at a position of a record of this size: the part, and the position after it, where that many octets
-- remain; or a refusal.
use Rattle.std.specs.Prelude.{List, ℕ, ◌-◌, length, drop, Result, Ok, Err}
use Rattle.numbers.specs.declared.Misspelling.{Misspelling}
use Rattle.numbers.specs.declared.Misspelling.TheVariants.{Endless, Ended, Padded}
use Rattle.numbers.specs.declared.Part.{Part}
use Rattle.numbers.specs.Leb128.{groups, Reading, endless, ended, padded, is, read_groups}
use Rattle.numbers.specs.Field.{ParseBy, refused, accepted}

----- A number, which has no limits and no refusals yet

unfoldable pub number_answer : ℕ → Reading → Result (Part ℕ) Misspelling
number_answer size endless = Err Endless
number_answer size ended = Err Ended
number_answer size padded = Err Padded
number_answer size (is n rest) = Ok (record { value = n; next = size - length rest })

unfoldable pub groups_at : ℕ → List ℕ → ℕ → Result (Part ℕ) Misspelling
groups_at k s at = number_answer (length s) (read_groups k (drop at s))

abbrev pub number_at : List ℕ → ℕ → Result (Part ℕ) Misspelling
number_at s at = groups_at groups s at

----- A part of any kind, and the value that holds it in the code

unfoldable pub part_answer : {R A B : Type 0} → (A → B) → ℕ → ParseBy R A → Result (Part B) R
part_answer hold size (refused e) = Err e
part_answer hold size (accepted a rest) = Ok (record { value = hold a; next = size - length rest })

-- a number holds itself
abbrev pub field_answer : {R : Type 0} → ℕ → ParseBy R ℕ → Result (Part ℕ) R
field_answer size p = part_answer (λ n. n) size p
