-- The quickest static flow and the rows that it was taken apart into are a plan with verdict 0: the rows are a flow inside the flow's
-- capacities, and the potentials are the cut for one slot less. Assumes nothing.
use mathlib.Core.Path.{◌≡◌, sym, ap, ◌∙◌}
use Prim.Native.Nat.{ℕ, suc, ◌-◌, ◌≤◌, ◌<◌}
use native.Mathlib.Nat.{le_trans}
use native.Mathlib.Omega.{arith}
use lib.ListN.{length}
use Rattle.flows.specs.Clock.{counting}
use Rattle.flows.specs.Span.{spanning}
use Rattle.flows.specs.Lists.{All}
use Rattle.flows.specs.Network.{Network, link, count, WellFormed}
use Rattle.flows.specs.Flow.{Least}
use Rattle.flows.specs.Cut.{number, IsCut, bound}
use Rattle.flows.specs.Rows.{IsChain, duration, Row, ends, load, Chained, Measured, Timely}
use Rattle.flows.specs.Plan.{Plan, Certified, verdict}
use Rattle.flows.proofs.Clock.{counting_spanning, counting_shorter}
use Rattle.flows.proofs.Lists.{all_map}
use Rattle.flows.proofs.Rows.{rows_flow, rows_delivered}
use Rattle.flows.proofs.Exact.{certified_verdict}
use Rattle.flows.proofs.Least.{verdict_least}
use Rattle.statics.specs.Reach.{Simple}
use Rattle.statics.proofs.Potentials.{take_cut, take_bound}
use Rattle.plans.proofs.Lawful.{lawful}
use Rattle.quickest.specs.declared.Quickest.{Quickest}
use Rattle.quickest.specs.Quickest.{IsQuickest}
use Rattle.decompose.specs.Decomposed.{GoodRow}
use Rattle.decompose.specs.Fills.{Fills}
use Rattle.certificate.specs.Made.{Made}

module _ {N : Network} {amount : ℕ} {q : Quickest} {p : Plan} (wf : WellFormed N) (quick : IsQuickest N amount q)
    (fills : Fills N q.state.flow q.state.potential amount q.slots (spanning q.slots) p) where
  -- what holds of each good row
  of_rows : (P : Row → Type 0) → ((r : Row) → GoodRow N q.slots r → P r) → All P p.rows
  of_rows P h = all_map (GoodRow N q.slots) P p.rows h fills.rows.good

  chained : Chained N p.rows
  chained = of_rows (λ r. IsChain N r.links) (λ r g. g.chain)

  measured : Measured N p.rows
  measured = of_rows (λ r. r.length ≡ duration N r.links) (λ r g. g.measured)

  timely : Timely N p.horizon p.rows
  timely = rw (fills.horizon, counting_spanning q.slots) (of_rows (λ r. ends N r ≤ q.slots) (λ r g. g.in_time))

  fits : (e s : ℕ) → e < count N → load N p.rows e s ≤ (link N e).capacity
  fits e s h = le_trans (fills.rows.within e s h) (quick.sound.primal_dual.flow.within e h)

  cuts : IsCut N (p.horizon - 1) p.cut
  cuts =
      let d = quick.sound in
      let long : N.places ≤ length q.state.potential = omega (arith, d.potentials, wf.places_most) in
      let level : ℕ = number q.state.potential N.destination in
      let last : q.slots ≡ suc level = omega (arith, quick.before) in
      let at : level ≡ counting (p.horizon - 1) = rw (fills.horizon, last) (sym (counting_shorter level)) in
      rw fills.cut
      (take_cut q.state.potential wf.connects (p.horizon - 1) at long d.primal_dual.potentials)

  proves : bound N p.cut < p.amount
  proves = omega (arith, ap (bound N) fills.cut, take_bound q.state.potential wf.connects, quick.too_short, fills.amount)

  certified : Certified N p
  certified =
      record {
        chained = chained;
        measured = measured;
        flow = rows_flow N p.horizon p.rows chained timely fits;
        delivers = rows_delivered N p.horizon p.rows chained timely wf.connects.apart ∙ fills.rows.sums ∙ sym fills.amount;
        cuts = cuts;
        proves = proves;
      }

  pub verdict_zero : verdict N p ≡ 0
  verdict_zero = certified_verdict wf.connects (lawful N p fills.limits) certified

  pub horizon_least : Least N amount p.horizon
  horizon_least = rw fills.amount at (verdict_least p wf.connects fills.limits.one_per_place verdict_zero)

  pub made : Made N amount p
  made =
      record {
        amount_kept = fills.amount;
        limits = fills.limits;
        passes = verdict_zero;
        simple = of_rows (λ r. Simple N r.links) (λ r g. g.simple);
        least = horizon_least;
      }
