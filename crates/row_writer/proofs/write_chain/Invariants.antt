-- `write_chain` meets its contract: one link number a turn, and those from the turn on come later. Assumes nothing.
use lib.ListN.{drop}
use Rattle.numbers.proofs.Stages.{Stage}
use Rattle.row_writer.proofs.write_chain.Given as goal

abbrev pub invariant-loop-link : goal.invariant-loop-link
invariant-loop-link l = Stage l.links l.initial.octets l.start (drop l.link-index l.links) l.octets l.at
