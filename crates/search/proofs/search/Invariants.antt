-- A turn settles a place: the places settled are as the search should go on from, and all places have their numbers in the arrays.
use Rattle.std.proofs.Common.{◌-◌, ◌≤◌}
use Rattle.residual.proofs.Turns.{Going}
use Rattle.search.proofs.search.Given as goal

abbrev pub invariant-loop-u : goal.invariant-loop-u
invariant-loop-u l = (l.residual.network.now.places ≤ 64) × Going l.residual.network.now l.residual.flow.now l.residual.potential.now l.labels l.rank l.settled l.u

abbrev pub decreases-loop-u : goal.decreases-loop-u
decreases-loop-u l = 64 - l.settled
