-- `optimum` steps until the level is the horizon: level and value never fall and one of them grows, and both are bounded. Assumes
-- nothing.
use mathlib.Core.Path.{subst}
use native.Mathlib.Omega.{arith}
use Rattle.network.specs.declared.Network.{Network}
use Rattle.network.specs.Held.{model_of}
use Rattle.primal_dual.specs.Steps.{Optimal}
use Rattle.primal_dual.proofs.Steps.{steppable, nearer}
use Rattle.states.proofs.Held.{destination_place}
use Rattle.primal_dual.proofs.optimum.Goals as goal

pub new-graph-requires : goal.new-graph-requires
new-graph-requires c = c.requires.well_formed

pub bounds-state-destination : goal.bounds-state-destination
bounds-state-destination c = omega (arith, destination_place _ c.new-graph.result.formed)

pub step-state-requires : goal.step-state-requires
step-state-requires c = steppable c.new-graph.result.formed c.requires.slots_most c.loop-state.invariant

pub loop-state-smaller : goal.loop-state-smaller
unfolding model_of
loop-state-smaller c = nearer c.new-graph.result.formed c.requires.slots_most c.loop-state.invariant c.step-state.ensures c.loop-state-test.true

pub returns : goal.returns
unfolding model_of
returns c =
    subst (λ (n : Network). Optimal (model_of n) c.args.slots c.loop-state.state) c.new-graph.ensures
    (record { sound = c.loop-state.invariant.sound; level_is = omega (arith, c.loop-state.invariant.below, c.loop-state-test.false) })
