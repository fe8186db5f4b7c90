-- `find_records` meets its contract: each way to read the length number has its answer, and the records are as long as it says.
-- Assumes nothing.
use mathlib.Core.Path.{sym, ◌∙◌}
use Rattle.inputs.proofs.Framing.{starts_inside, framed_misspelled, framed_few, framed_two}
use Rattle.inputs.proofs.find_records.Goals as goal

pub overflow_sub-input : goal.overflow_sub-input
overflow_sub-input c = starts_inside _ _ _ (sym c.read_number.ensures ∙ c.in-Ok.is)

pub returns-then-input-start : goal.returns-then-input-start
returns-then-input-start c = framed_few _ _ _ (sym c.read_number.ensures ∙ c.in-Ok.is) c.if-input-start.true

pub returns-in-Err : goal.returns-in-Err
returns-in-Err c = rw c.of.ensures (framed_misspelled _ _ (sym c.read_number.ensures ∙ c.in-Err.is))

pub returns-else-input-start : goal.returns-else-input-start
returns-else-input-start c = framed_two _ _ _ (sym c.read_number.ensures ∙ c.in-Ok.is) c.if-input-start.false
