-- `optimum` steps until the level is the horizon: level and value never fall and one of them grows, and both are bounded. Assumes
-- nothing.
use Rattle.network.specs.Held.{model_of}
use Rattle.primal_dual.specs.Steps.{Begun}
use Rattle.primal_dual.proofs.Steps.{ahead}
use Rattle.primal_dual.proofs.optimum.Given as goal

abbrev pub invariant-loop-state : goal.invariant-loop-state
invariant-loop-state l = Begun (model_of l.graph.network) l.slots l.state

abbrev pub decreases-loop-state : goal.decreases-loop-state
decreases-loop-state l = ahead (model_of l.graph.network) l.slots l.state
