-- `link_loads::link_over` meets its contract. The loop's invariant: no use passed is over. Assumes nothing.
use Rattle.row_uses.specs.Files.{lent_of}
use Rattle.link_loads.proofs.AlongChain.{Passing}
use Rattle.link_loads.proofs.link_over.Given as goal

abbrev pub invariant-loop-k : goal.invariant-loop-k
invariant-loop-k l =
    Passing (lent_of l.uses) l.capacity l.start l.k

abbrev pub decreases-loop-k : goal.decreases-loop-k
decreases-loop-k l = l.k
