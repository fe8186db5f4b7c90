-- `augment` pushes the bottleneck's blocks over the arcs of the tree, from the destination to the origin: the laws of that way, turn by
-- turn; ranks fall, so it ends. Assumes nothing.
use Rattle.network.specs.Held.{model_of}
use Rattle.residual.specs.Tree.{rank}
use Rattle.augment.proofs.Pushing.{Pushing}
use Rattle.augment.proofs.augment.Given as goal

abbrev pub invariant-loop-at : goal.invariant-loop-at
invariant-loop-at l = Pushing (model_of l.network) l.state l.tree l.by l.next l.at

abbrev pub decreases-loop-at : goal.decreases-loop-at
decreases-loop-at l = rank l.tree l.at
