-- `quickest_flow::find` meets its contract. The loop's invariant: the state is too short for the amount. Each turn that goes on makes
-- the value grow, and no value is above all capacities: that is the measure. Assumes nothing.
use Prim.Native.Nat.{◌-◌, ◌*◌}
use Rattle.limits.specs.Limits.{most_links, most_capacity}
use Rattle.network.specs.Held.{model_of}
use Rattle.quickest.specs.Quickest.{TooShort}
use Rattle.quickest_flow.proofs.find.Given as goal

abbrev pub invariant-loop-quickest : goal.invariant-loop-quickest
invariant-loop-quickest l = TooShort (model_of l.graph.network) l.amount l.state

-- how much the value can still grow
abbrev pub decreases-loop-quickest : goal.decreases-loop-quickest
decreases-loop-quickest l = most_capacity * most_links - l.state.value
