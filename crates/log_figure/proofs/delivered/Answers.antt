-- `delivered` meets its contract: the entries passed are counted, and all of them are what the definition sums. Assumes nothing.
use mathlib.Core.Path.{◌≡◌, refl, ap, ◌∙◌}
use native.Mathlib.Omega.{arith}
use Prim.Native.Nat.{suc, ◌+◌}
use Rattle.flows.specs.Clock.{counting}
use Rattle.logs.specs.Log.{last_slot}
use Rattle.logs.proofs.Columns.{linked, short}
use Rattle.log_figure.proofs.Counting.{last_early, Counting, counting_none, arrival_small, counting_more, delivered_is}
use Rattle.log_figure.proofs.delivered.Goals as goal
use Rattle.log_figure.proofs.delivered.Goals.{After-counted-left}

-- with one entry more
counted_more : (c : After-counted-left) →
    Counting c.args.log.network.now c.args.log.entries.now c.args.log.network.now.destination c.counting-k.result
    (c.loop-entry.arrived + c.counted-arrived.result) (c.loop-entry.left + c.counted-left.result) (c.loop-entry.entry-index + 1)
counted_more c =
    counting_more c.args.log.network.now c.args.log.entries.now _ _ c.args.log.given _ _ _ c.loop-entry.invariant c.loop-entry-test.true _ _
    c.counted-arrived.ensures c.counted-left.ensures

pub overflow_add-last_slot : goal.overflow_add-last_slot
overflow_add-last_slot c = omega (arith, c.last_slot.ensures, last_early _ c.args.log.entries.now c.args.log.given)

pub loop-entry-init : goal.loop-entry-init
loop-entry-init c = counting_none _ _ _ _

pub bounds-network-entry : goal.bounds-network-entry
bounds-network-entry c = linked _ _ c.args.log.formed c.args.log.given _ c.loop-entry-test.true

pub overflow_add-entry : goal.overflow_add-entry
overflow_add-entry c =
    let i = c.loop-entry.entry-index in
    omega (
      arith,
      c.args.log.given.early i c.loop-entry-test.true,
      short _ _ c.args.log.formed c.args.log.given i c.loop-entry-test.true,
    )

pub overflow_add-arrived : goal.overflow_add-arrived
overflow_add-arrived c =
    omega (
      arith,
      c.loop-entry.invariant.arrivals_small,
      c.args.log.given.few,
      arrival_small c.args.log.network.now c.args.log.entries.now c.args.log.network.now.destination _ c.args.log.given _ _ _ c.loop-entry.invariant
          c.loop-entry-test.true _ _ c.counted-arrived.ensures refl,
    )

pub overflow_add-left : goal.overflow_add-left
overflow_add-left c = omega (arith, (counted_more (goal.at.overflow_add-left c).After-counted-left).departures_small, c.args.log.given.few)

pub loop-entry-preserved : goal.loop-entry-preserved
loop-entry-preserved c = counted_more (goal.at.loop-entry-preserved c).After-counted-left

pub returns : goal.returns
returns c =
    let e : c.last_slot.result + 1 ≡ suc (last_slot c.args.log.entries.now) = omega (arith, c.last_slot.ensures) in
    c.saturating_sub.ensures
    ∙ delivered_is c.args.log.network.now c.args.log.entries.now c.args.log.given _ _ _ _ _ c.loop-entry.invariant (omega arith) refl
    (c.counting-k.ensures ∙ ap counting e)
