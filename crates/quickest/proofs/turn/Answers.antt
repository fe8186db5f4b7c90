-- `quickest::turn` meets its contract: each way out is a law of `Turns`, and the numbers stay small since value, cost and level have
-- limits. Assumes nothing.
use Prim.Native.Nat.{◌+◌, ◌*◌, ◌≤◌, ◌<◌}
use native.Mathlib.Omega.{arith}
use Rattle.network.specs.Held.{model_of}
use Rattle.states.specs.Steps.{level}
use Rattle.states.proofs.Held.{destination_place}
use Rattle.quickest.proofs.Turns.{Turnable, below_longest, cost_most, product_most, at_once}
use Rattle.quickest.proofs.Turns.{by_most, stops, augmentable, goes_on}
use Rattle.quickest.proofs.turn.Goals as goal
use Rattle.quickest.proofs.turn.Goals.{After-search-tree, Else-needed-at_most, Then-needed-at_most}

turnable : (c : After-search-tree)
    → Turnable (model_of c.args.graph.now.network) c.args.amount c.args.state.now c.search-tree.result
    c.cost.result
turnable c =
    let p = c.requires in
    record { plannable = p.0; short = p.1; searched = c.search-tree.ensures; cost_is = c.cost.ensures }

-- what the flow brings by the highest level that the search allows is enough, or it is not
brings : (c : Then-needed-at_most)
    → c.args.amount + c.cost.result
    ≤ (level (model_of c.args.graph.now.network) c.args.state.now + c.min-room.result) * c.args.state.now.value
unfolding model_of
brings c = rw (c.from.ensures, c.from-3.ensures) at c.if-needed-at_most.true

lacks : (c : Else-needed-at_most)
    → (level (model_of c.args.graph.now.network) c.args.state.now + c.min-room.result) * c.args.state.now.value
    < c.args.amount + c.cost.result
unfolding model_of
lacks c = rw (c.from.ensures, c.from-3.ensures) at c.if-needed-at_most.false

pub bounds-state-destination : goal.bounds-state-destination
bounds-state-destination c = destination_place _ c.requires.0.well_formed

pub overflow_add-needed : goal.overflow_add-needed
overflow_add-needed c =
    let p = c.requires in
    omega (arith, c.from.ensures, c.cost.ensures, cost_most p.0 _ p.1)

pub overflow_mul-at_once : goal.overflow_mul-at_once
unfolding model_of
overflow_mul-at_once c =
    let p = c.requires in
    rw c.from-2.ensures (omega (arith, product_most p.0 _ p.1 _ (below_longest p.0 _ p.1)))

pub returns-then-needed-at_once : goal.returns-then-needed-at_once
unfolding model_of
returns-then-needed-at_once c =
    let p = c.requires in
    at_once p.0 _ p.1 (rw (c.from.ensures, c.from-2.ensures, c.cost.ensures) at c.if-needed-at_once.true)

pub overflow_mul-at_most : goal.overflow_mul-at_most
unfolding model_of
overflow_mul-at_most c =
    let p = turnable (goal.at.overflow_mul-at_most c).After-search-tree in
    rw c.from-3.ensures (omega (arith, product_most p.plannable _ p.short _ (by_most p c.min-room.ensures)))

pub returns-then-needed-at_most : goal.returns-then-needed-at_most
unfolding model_of
returns-then-needed-at_most c =
    rw c.from.ensures (stops (turnable (goal.at.returns-then-needed-at_most c).After-search-tree) c.min-room.ensures (brings (goal.at.returns-then-needed-at_most c).Then-needed-at_most) _ (rw c.from.ensures at c.raise.ensures))

pub augment-requires : goal.augment-requires
unfolding model_of
augment-requires c =
    augmentable (turnable (goal.at.augment-requires c).After-search-tree) c.min-room.ensures (lacks (goal.at.augment-requires c).Else-needed-at_most) _ c.raise-raised.ensures

pub returns : goal.returns
unfolding model_of
returns c =
    goes_on (turnable (goal.at.returns c).After-search-tree) c.min-room.ensures (lacks (goal.at.returns c).Else-needed-at_most) _ c.raise-raised.ensures
    _ c.augment.ensures
