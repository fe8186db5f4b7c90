-- `put_rows` meets its contract: after i turns the first i rows stand in their lines, and each turn puts the next into the part after
-- them. Assumes nothing.
use Rattle.texts.proofs.InOrder.{Upto}
use Rattle.row_lines.proofs.Rows.{line_of}
use Rattle.row_lines.proofs.put_rows.Given as goal

abbrev pub invariant-loop-i : goal.invariant-loop-i
invariant-loop-i g l = Upto (line_of g.L.Line.line l.fn.plan) l.fn.plan.count l.initial.part l.part l.at l.i
