-- The path from the place to the destination is filled in; the place's rank falls from a place to the one by which it was reached.
use Rattle.std.proofs.Common.{◌<◌}
use Rattle.network.specs.Held.{model_of}
use Rattle.residual.specs.Tree.{rank}
use Rattle.routes.proofs.Trails.{Traced}
use Rattle.routes.proofs.finding.trace.Given as goal

abbrev pub invariant-loop-place : goal.invariant-loop-place
invariant-loop-place l = Traced (model_of l.network) l.tree l.links l.first l.place × (l.place < 64)

abbrev pub decreases-loop-place : goal.decreases-loop-place
decreases-loop-place l = rank l.tree l.place
