-- `bottleneck` follows the tree's arcs from the destination to the origin: the least room so far and that of the rest make the whole;
-- ranks fall, so it ends. Assumes nothing.
use Rattle.network.specs.Held.{model_of}
use Rattle.residual.specs.Tree.{rank}
use Rattle.augment.proofs.Narrow.{Narrowing}
use Rattle.augment.proofs.bottleneck.Given as goal

abbrev pub invariant-loop-at : goal.invariant-loop-at
invariant-loop-at l = Narrowing (model_of l.network) l.state l.tree l.least l.at

abbrev pub decreases-loop-at : goal.decreases-loop-at
decreases-loop-at l = rank l.tree l.at
