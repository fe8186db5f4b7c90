-- `link_loads::load_at` meets its contract. The loop's invariant: the rates begun, with what the uses still to come put in, are the rates ended
-- and the whole load. Assumes nothing.
use Rattle.row_uses.specs.Files.{lent_of}
use Rattle.link_loads.proofs.AlongChain.{Summing}
use Rattle.link_loads.proofs.load_at.Given as goal

abbrev pub invariant-loop-k : goal.invariant-loop-k
invariant-loop-k l =
    Summing (lent_of l.uses) l.start l.slot l.begun l.ended l.k

abbrev pub decreases-loop-k : goal.decreases-loop-k
decreases-loop-k l = l.k
