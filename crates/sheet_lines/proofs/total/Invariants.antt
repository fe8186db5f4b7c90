-- `total` meets its contract: after some turns the first rows are summed. Assumes nothing.
use Rattle.sheet_lines.proofs.Summing.{Summed}
use Rattle.sheet_lines.proofs.total.Given as goal

abbrev pub invariant-loop-row : goal.invariant-loop-row
invariant-loop-row l = Summed l.fn.plan l.sum l.row-index
