-- `read_field` meets its contract: each return is one of the ways to test a number against its limits. Assumes nothing.
use mathlib.Core.Path.{sym, ap, ◌∙◌}
use Rattle.std.specs.Prelude.{Err}
use Rattle.numbers.proofs.Fields.{field_misspelled, field_low, field_high, field_within}
use Rattle.field_reader.proofs.read_field.Goals as goal
use Rattle.field_reader.proofs.read_field.Goals.{then-number-low-via-then-number-low, then-number-low-via-else-number-low+then-high-number}

pub returns-in-Err : goal.returns-in-Err
returns-in-Err g c = ap Err c.of.ensures ∙ field_misspelled _ _ _ _ _ _ (sym c.in-Err.is ∙ c.read_number.ensures)

pub returns-then-number-low : goal.returns-then-number-low
returns-then-number-low g c = elim c.then-number-low.branch [
  | then-number-low-via-then-number-low w ↦ field_low _ _ _ _ _ _ (sym c.in-Ok.is ∙ c.read_number.ensures) w.if-number-low.true
  | then-number-low-via-else-number-low+then-high-number w ↦
      field_high _ _ _ _ _ _ (sym c.in-Ok.is ∙ c.read_number.ensures) w.if-number-low.false w.if-high-number.true
]

pub returns-else-high-number : goal.returns-else-high-number
returns-else-high-number g c =
    field_within _ _ _ _ _ _ (sym c.in-Ok.is ∙ c.read_number.ensures) c.if-number-low.false c.if-high-number.false
