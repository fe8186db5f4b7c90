-- `decompose::fill` meets its contract: while blocks are owed the flow that is left has a value, so a route is there, by the hint or by a
-- search, and the turn over it keeps what holds of the plan and of what is left. The value falls in each turn. Assumes nothing.
use Rattle.std.proofs.Common.{◌≡◌, ℕ, [], ◌-◌, ◌<◌, refl, sym, ap, ◌∙◌, arith, rules}
use mathlib.Core.Path.{subst⁻¹}
use Rattle.flows.specs.Rows.{duration}
use Rattle.durations.specs.Lasting.{lasting}
use Rattle.network.specs.Held.{model_of}
use Rattle.network.proofs.Model.{places_model}
use Rattle.plans.proofs.Model.{length_rows}
use Rattle.routes.specs.Route.{links_of}
use Rattle.statics.proofs.Sizes.{value_limit}
use Rattle.turns.specs.Turn as turns
use Rattle.turns.proofs.Bottleneck.{least_most}
use Rattle.turn_rows.specs.Stored.{row_along}
use Rattle.decompose.proofs.Filling.{value_pos, rate_pos, rate_holds}
use Rattle.decompose.proofs.Found.{found_lasts, found_timed}
use Rattle.decompose.proofs.Planning.{plan_of, planning_begins, planning_framed, planning_stored, planning_few, planning_goes_on, plan_fills, plan_countable}
use Rattle.decompose.proofs.fill.Goals as goal
use Rattle.decompose.proofs.fill.Goals.{In-loop-owed}

-- blocks are owed, and the flow's value is above 0
value_at : (c : In-loop-owed) → 0 < c.loop-owed.carried
value_at c = value_pos c.args.graph.now.formed c.loop-owed.invariant.filling (omega arith)

pub overflow_cast-carried : goal.overflow_cast-carried
overflow_cast-carried c = omega (arith, value_limit c.requires.static c.args.graph.now.formed)

pub loop-owed-init : goal.loop-owed-init
loop-owed-init c =
    let a = c.args in
    planning_begins a.amount a.slots (plan_of a.amount 0 [] a.rows.now) c.requires.static c.requires.enough
    (search rules) (search rules)

pub next_route-route-requires : goal.next_route-route-requires
next_route-route-requires c = record {
  value = c.loop-owed.carried;
  static = c.loop-owed.invariant.filling.static;
  some = value_at (goal.at.next_route-route-requires c).In-loop-owed;
}

pub duration-length-requires : goal.duration-length-requires
duration-length-requires c =
    rw c.links.ensures (found_timed c.args.graph.now.network c.args.graph.now.formed c.next_route-route.result c.next_route-route.ensures)

pub apportion-portion-requires : goal.apportion-portion-requires
apportion-portion-requires c =
    let at = goal.at.apportion-portion-requires c in
    rw c.least-rate.ensures (rate_pos c.args.graph.now.formed c.next_route-route.ensures c.loop-owed.carried (value_at at.In-loop-owed))

pub store-count-requires : goal.store-count-requires
store-count-requires c =
    omega (arith, planning_few c.args.graph.now.formed c.loop-owed.invariant (omega arith) c.requires.few c.next_route-route.result c.next_route-route.ensures)

pub take_off-requires : goal.take_off-requires
take_off-requires c =
    let at = goal.at.take_off-requires c in
    let f = c.next_route-route.ensures in
    record {
      size = c.loop-owed.invariant.long;
      holds =
          subst⁻¹ (λ (b : ℕ). turns.Holds c.loop-owed.left b (links_of c.next_route-route.result)) c.least-rate.ensures
          (rate_holds c.args.graph.now.formed f c.loop-owed.carried (value_at at.In-loop-owed));
    }

pub overflow_sub-carried : goal.overflow_sub-carried
overflow_sub-carried c = rw c.least-rate.ensures (least_most c.loop-owed.left c.loop-owed.carried (links_of c.next_route-route.result))

pub loop-owed-smaller : goal.loop-owed-smaller
loop-owed-smaller c =
    let at = goal.at.loop-owed-smaller c in
    let some = value_at at.In-loop-owed in
    let rate : 0 < c.least-rate.result =
    rw c.least-rate.ensures (rate_pos c.args.graph.now.formed c.next_route-route.ensures c.loop-owed.carried some) in
    omega arith

pub loop-owed-preserved : goal.loop-owed-preserved
loop-owed-preserved c =
    let f = c.next_route-route.ensures in
    let portion = c.apportion-portion.result in
    let route = c.next_route-route.result in
    let rate : ℕ = c.least-rate.result in
    let lasts : c.duration-length.result ≡ duration (model_of c.args.graph.now.network) (links_of route) =
    c.duration-length.ensures.0 ∙ ap (lasting c.args.graph.now.network.links) c.links.ensures ∙ found_lasts c.args.graph.now.network c.args.graph.now.formed route f in
    planning_stored c.store-count.ensures.rows c.store-count.ensures.counted
    (planning_goes_on c.args.graph.now.formed c.loop-owed.invariant (omega arith) c.requires.few route f
    (record {
      rate_is = c.least-rate.ensures;
      slots_are = ap (λ (t : ℕ). c.args.slots - t) lasts;
      apportioned = c.apportion-portion.ensures;
      row = ap (λ (n : ℕ). row_along route n rate 0 portion.departures) lasts;
      counts = refl;
      last = ap (λ (n : ℕ). row_along route n portion.last portion.departures 1) lasts;
      last_counts = refl;
      after = c.take_off.ensures;
    }))

pub overflow_cast-result : goal.overflow_cast-result
overflow_cast-result c =
    let loop = c.loop-owed in
    omega (arith, loop.invariant.filling.most, length_rows (plan_of c.args.amount 0 [] loop.rows) loop.count)

pub returns : goal.returns
returns c =
    let done : c.loop-owed.owed ≡ 0 = omega arith in
    let net = c.args.graph.now.network in
    let a : ℕ = c.args.amount in
    record {
      fills = λ T π f. plan_fills (planning_framed a 0 T [] π c.loop-owed.invariant) done c.requires.amount f.horizon
          net.places (sym (places_model net)) f.size f.potentials;
      countable = λ T π. plan_countable (planning_framed a 0 T [] π c.loop-owed.invariant);
    }
