-- `bottleneck` follows the tree's arcs from the destination to the origin: the least room so far and that of the rest make the whole;
-- ranks fall, so it ends. Assumes nothing.
use mathlib.Core.Path.{sym, ◌∙◌}
use native.Mathlib.Omega.{arith}
use Rattle.network.specs.Held.{model_of}
use Rattle.network.proofs.Model.{origin_model}
use Rattle.augment.proofs.Narrow.{narrow_begin, narrow_step, narrow_end}
use Rattle.states.proofs.Held.{Standing, standing}
use Rattle.augment.proofs.bottleneck.Goals as goal
use Rattle.augment.proofs.bottleneck.Goals.{In-loop-at}

-- in a turn the way back stands at a settled place that is not the origin
here : (c : In-loop-at)
    → Standing c.args.network.now c.args.state.now c.args.tree.now c.loop-at.at
here c = standing _ _ _ _ c.requires c.loop-at.invariant.settled c.loop-at-test.true

pub loop-at-init : goal.loop-at-init
unfolding model_of
loop-at-init c = narrow_begin c.requires.tree

pub overflow_cast-arc : goal.overflow_cast-arc
overflow_cast-arc c = omega (arith, (here (goal.at.overflow_cast-arc c).In-loop-at).place)

pub offset_bounds-tree-at : goal.offset_bounds-tree-at
offset_bounds-tree-at c = omega (arith, (here (goal.at.offset_bounds-tree-at c).In-loop-at).place)

pub bounds-tree-at : goal.bounds-tree-at
bounds-tree-at c = omega (arith, (here (goal.at.bounds-tree-at c).In-loop-at).place)

pub overflow_cast-e : goal.overflow_cast-e
overflow_cast-e c = omega (arith, (here (goal.at.overflow_cast-e c).In-loop-at).index)

pub offset_bounds-network-e : goal.offset_bounds-network-e
offset_bounds-network-e c = omega (arith, (here (goal.at.offset_bounds-network-e c).In-loop-at).index)

pub bounds-network-e : goal.bounds-network-e
bounds-network-e c = omega (arith, (here (goal.at.bounds-network-e c).In-loop-at).index)

pub offset_bounds-state-e : goal.offset_bounds-state-e
offset_bounds-state-e c = omega (arith, (here (goal.at.offset_bounds-state-e c).In-loop-at).index)

pub bounds-state-e : goal.bounds-state-e
bounds-state-e c = omega (arith, (here (goal.at.bounds-state-e c).In-loop-at).index)

pub room_of-requires : goal.room_of-requires
room_of-requires c = omega (arith, (here (goal.at.room_of-requires c).In-loop-at).carries)

pub loop-at-smaller : goal.loop-at-smaller
loop-at-smaller c =
    let i = here (goal.at.loop-at-smaller c).In-loop-at in
    rw (c.tail_of-at.ensures, ← i.from) i.over.before

pub loop-at-preserved : goal.loop-at-preserved
loop-at-preserved c =
    let i = here (goal.at.loop-at-preserved c).In-loop-at in
    rw (c.tail_of-at.ensures, ← i.from, c.min-least.ensures, c.room_of.ensures, ← i.has)
    (narrow_step c.requires.tree c.loop-at.invariant (λ e. c.loop-at-test.true (e ∙ origin_model _)))

pub returns : goal.returns
returns c = narrow_end c.requires.tree c.loop-at.invariant (c.loop-at-test.false ∙ sym (origin_model _))
