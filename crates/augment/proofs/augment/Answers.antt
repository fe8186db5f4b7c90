-- `augment` pushes the bottleneck's blocks over the arcs of the tree, from the destination to the origin: the laws of that way, turn by
-- turn; ranks fall, so it ends. Assumes nothing.
use Prim.Native.Nat.{◌≤◌}
use mathlib.Core.Path.{sym, ◌∙◌}
use native.Mathlib.Omega.{arith}
use Rattle.limits.specs.Limits.{most_capacity}
use Rattle.network.specs.Held.{model_of}
use Rattle.network.proofs.Model.{origin_model}
use Rattle.statics.proofs.Sizes.{value_limit}
use Rattle.augment.proofs.Narrow.{narrowest_most, narrowest_positive}
use Rattle.augment.proofs.Pushing.{push_begin, push_step, push_allowed, push_end}
use Rattle.states.proofs.Held.{Standing, standing}
use Rattle.augment.proofs.augment.Goals as goal
use Rattle.augment.proofs.augment.Goals.{After-bottleneck-by, In-loop-at}

-- no more than a link can carry
by_most : (c : After-bottleneck-by) → c.bottleneck-by.result ≤ most_capacity
by_most c = omega (arith, c.bottleneck-by.ensures, narrowest_most (model_of c.args.network.now) c.args.state.now.flow c.args.tree.now)

-- in a turn the way back stands at a settled place that is not the origin
here : (c : In-loop-at)
    → Standing c.args.network.now c.args.state.now c.args.tree.now c.loop-at.at
here c = standing _ _ _ _ c.requires c.loop-at.invariant.settled c.loop-at-test.true

pub loop-at-init : goal.loop-at-init
unfolding model_of
loop-at-init c =
    push_begin c.requires.well_formed c.requires.sound c.requires.tree (omega (arith, c.bottleneck-by.ensures))

pub overflow_cast-arc : goal.overflow_cast-arc
overflow_cast-arc c = omega (arith, (here (goal.at.overflow_cast-arc c).In-loop-at).place)

pub offset_bounds-tree-at : goal.offset_bounds-tree-at
offset_bounds-tree-at c = omega (arith, (here (goal.at.offset_bounds-tree-at c).In-loop-at).place)

pub bounds-tree-at : goal.bounds-tree-at
bounds-tree-at c = omega (arith, (here (goal.at.bounds-tree-at c).In-loop-at).place)

pub overflow_cast-e : goal.overflow_cast-e
overflow_cast-e c = omega (arith, (here (goal.at.overflow_cast-e c).In-loop-at).index)

pub offset_bounds-next-e : goal.offset_bounds-next-e
offset_bounds-next-e c = omega (arith, (here (goal.at.offset_bounds-next-e c).In-loop-at).index)

pub bounds-next-e : goal.bounds-next-e
bounds-next-e c = omega (arith, (here (goal.at.bounds-next-e c).In-loop-at).index)

pub push-requires : goal.push-requires
push-requires c =
    let s = c.requires in
    push_allowed s.well_formed s.sound s.tree c.loop-at.invariant (λ e. c.loop-at-test.true (e ∙ origin_model _))

pub offset_bounds-next-e-in-loop-at : goal.offset_bounds-next-e-in-loop-at
offset_bounds-next-e-in-loop-at c = omega (arith, (here (goal.at.offset_bounds-next-e-in-loop-at c).In-loop-at).index)

pub bounds-next-e-in-loop-at : goal.bounds-next-e-in-loop-at
bounds-next-e-in-loop-at c = omega (arith, (here (goal.at.bounds-next-e-in-loop-at c).In-loop-at).index)

pub offset_bounds-network-e : goal.offset_bounds-network-e
offset_bounds-network-e c = omega (arith, (here (goal.at.offset_bounds-network-e c).In-loop-at).index)

pub bounds-network-e : goal.bounds-network-e
bounds-network-e c = omega (arith, (here (goal.at.bounds-network-e c).In-loop-at).index)

pub loop-at-smaller : goal.loop-at-smaller
loop-at-smaller c =
    let i = here (goal.at.loop-at-smaller c).In-loop-at in
    rw (c.tail_of-at.ensures, ← i.from) i.over.before

pub loop-at-preserved : goal.loop-at-preserved
loop-at-preserved c =
    let i = here (goal.at.loop-at-preserved c).In-loop-at in
    let s = c.requires in
    rw (c.tail_of-at.ensures, ← i.from, c.push.ensures)
    (push_step s.well_formed s.sound s.tree c.loop-at.invariant (λ e. c.loop-at-test.true (e ∙ origin_model _)))

pub overflow_add-next : goal.overflow_add-next
overflow_add-next c =
    let s = c.requires in
    omega (arith, c.from.ensures, by_most (goal.at.overflow_add-next c).After-bottleneck-by, value_limit s.sound.primal_dual.flow s.well_formed)

pub returns : goal.returns
returns c =
    let s = c.requires in
    rw c.from.ensures
    (push_end s.well_formed s.sound s.tree c.loop-at.invariant (c.loop-at-test.false ∙ sym (origin_model _))
    (omega (arith, c.bottleneck-by.ensures, narrowest_positive s.tree)))
