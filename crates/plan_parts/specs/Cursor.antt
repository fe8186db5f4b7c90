-- What the code's readers answer at a position of a plan's record of this size, where a cut, a chain or a row is read, as
-- `numbers/specs/Position` says it of a number. The network's copy is answered as a number is: its length, and the position after it.
use Rattle.std.specs.Prelude.{List, ℕ, Result}
use Rattle.limits.specs.Limits.{most_places, most_row_links}
use Rattle.refusals.specs.declared.Refusal.{Refusal}
use Rattle.numbers.specs.declared.Part.{Part}
use Rattle.numbers.specs.Field.{Parse}
use Rattle.numbers.specs.Position.{part_answer}
use Rattle.flows.specs.Rows as rows
use Rattle.plans.specs.Held.{padded, held_row}
use Rattle.plans.specs.declared.Row.{Row}

abbrev pub cut_answer : ℕ → Parse (List ℕ) → Result (Part (List ℕ)) Refusal
cut_answer size p = part_answer (padded most_places) size p

abbrev pub chain_answer : ℕ → Parse (List ℕ) → Result (Part (List ℕ)) Refusal
chain_answer size p = part_answer (padded most_row_links) size p

abbrev pub row_answer : ℕ → Parse rows.Row → Result (Part Row) Refusal
row_answer size p = part_answer held_row size p
