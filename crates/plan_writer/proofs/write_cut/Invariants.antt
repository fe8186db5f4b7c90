-- `write_cut` meets its contract: one number a turn, and those from the turn on come later. Assumes nothing.
use lib.ListN.{drop}
use Rattle.numbers.proofs.Stages.{Stage}
use Rattle.plan_writer.proofs.write_cut.Given as goal

abbrev pub invariant-loop-number : goal.invariant-loop-number
invariant-loop-number l = Stage l.cut l.initial.octets l.start (drop l.number-index l.cut) l.octets l.at
