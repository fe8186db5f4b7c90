-- `cost` adds what one link holds in a turn, by the laws of the sum. Assumes nothing.
use Rattle.costs.proofs.Weigh.{Weighing}
use Rattle.costs.proofs.cost.Given as goal

abbrev pub invariant-loop-e : goal.invariant-loop-e
invariant-loop-e l = Weighing l.network l.state.flow l.sum l.e
