-- `write` meets its contract: the plan's five parts are written one after another, and of the last, the rows, one a turn. Assumes nothing.
use Rattle.plan_writer.proofs.Writing.{Rows}
use Rattle.plan_writer.proofs.write.Given as goal

abbrev pub invariant-loop-row : goal.invariant-loop-row
invariant-loop-row l = Rows l.plan l.initial.buffer l.initial.at l.row-index l.buffer l.at
