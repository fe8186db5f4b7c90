-- The arcs of the links before `at` in the chain are relaxed, and `at` is a link's number and one more, or 0.
use Rattle.std.proofs.Common.{◌≤◌}
use Rattle.residual.specs.Relax.{side_of, first_of}
use Rattle.residual.proofs.Relax.{RelaxedTo}
use Rattle.relax_side.proofs.relax_side.Given as goal

abbrev pub invariant-loop-at : goal.invariant-loop-at
invariant-loop-at l = (l.at ≤ 256) × RelaxedTo (side_of l.side) (first_of l.side) l.initial.labels l.labels l.at

abbrev pub decreases-loop-at : goal.decreases-loop-at
decreases-loop-at l = l.at
