-- What the code's reader of a plan answers: a part, and where the reader stands after it. The array that holds the rows is lent to it.
use Rattle.std.specs.Prelude.{List, ℕ, Result, Ok, Err}
use Rattle.refusals.specs.declared.Refusal.{Refusal}
use Rattle.numbers.specs.declared.Part.{Part}
use Rattle.numbers.specs.Field.{Parse}
use Rattle.numbers.specs.Position.{part_answer}
use Rattle.flows.specs.Rows as rows
use Rattle.plans.specs.declared.Row.{Row}
use Rattle.plans.specs.Held.{held_rows}

abbrev pub rows_answer : ℕ → Parse (List rows.Row) → Result (Part (List Row)) Refusal
rows_answer size p = part_answer held_rows size p

-- a part and the reader's position after it, as one answer
abbrev pub part_told : {A : Type 0} → Result A Refusal → ℕ → Result (Part A) Refusal
part_told (Ok value) next = Ok (record { value = value; next = next })
part_told (Err e) next = Err e

-- the rows in their array and the reader's position after them, as one answer
abbrev pub rows_told : {U : Type 0} → Result U Refusal → ℕ → List Row → Result (Part (List Row)) Refusal
rows_told (Ok done) next rows = Ok (record { value = rows; next = next })
rows_told (Err e) next rows = Err e
