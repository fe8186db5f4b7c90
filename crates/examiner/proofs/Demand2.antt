-- Demand 2, about what `examine` answers: the verdict 0 is given to exactly those plans whose rows are as long as they say and a flow
-- that delivers their amount with their horizon and whose cut proves every shorter horizon too short; so the horizon is the least. By
-- the exactness of the verdict, with the limits that reading has tested. Assumes nothing.
use mathlib.Core.Path.{◌≡◌, refl, sym, ap, ◌∙◌}
use mathlib.Core.Logic.{◌↔◌}
use mathlib.Core.List.{List}
use Prim.Native.Nat.{ℕ}
use native.Mathlib.Omega.{arith}
use Rattle.numbers.specs.Leb128.{Octets}
use Rattle.numbers.specs.Field.{Parse, refused, accepted}
use Rattle.flows.specs.Network.{Network, count, WellFormed}
use Rattle.flows.specs.Flow.{Least}
use Rattle.flows.specs.Cut.{bound}
use Rattle.flows.specs.Plan.{Plan, Certified, verdict}
use Rattle.flows.proofs.Exact.{exact}
use Rattle.flows.proofs.Least.{verdict_least}
use Rattle.network.specs.Record.{read_network}
use Rattle.network.proofs.WellFormed.{well_formed}
use Rattle.plans.specs.Carried.{read_carrying, carrying}
use Rattle.plans.specs.InLimits.{InLimits}
use Rattle.plans.proofs.Carried.{carrying_in_limits, carrying_written}
use Rattle.plans.proofs.Lawful.{lawful}
use Rattle.refusals.proofs.Positive.{positive}
use Rattle.examiner.specs.Examine.{Verdict, examined_plan, examined_for, examined, examine_refusal_of, verdict_of, bound_of}

-- ---- of a network and a plan that are read

module _ (octets plan : List ℕ) (N : Network) (p : Plan) (r s : List ℕ) (network_read : read_network octets ≡ accepted N r)
    (plan_read : read_carrying octets N.places (count N) plan ≡ accepted p s) where
  formed : WellFormed N
  formed = well_formed octets N r network_read

  in_limits : InLimits N.places (count N) p
  in_limits = carrying_in_limits octets N.places (count N) plan p s plan_read (omega (arith, formed.links_least))

  -- "the answer holds the verdict and that bound"
  pub answered : examined octets plan ≡ Verdict (verdict N p) (bound N p.cut)
  unfolding examined examined_for examined_plan
  answered = rw (network_read, plan_read)

  -- "0 none of these": exactly
  pub zero_exactly : (b : ℕ) → (examined octets plan ≡ Verdict 0 b) ↔ (Certified N p × (b ≡ bound N p.cut))
  zero_exactly b = (
    λ a.
        let same : Verdict (verdict N p) (bound N p.cut) ≡ Verdict 0 b = sym answered ∙ a in (
          (exact formed.connects (lawful N p in_limits)).0 (ap verdict_of same),
          sym (ap bound_of same),
        ),
    λ c.
        let v : verdict N p ≡ 0 = (exact formed.connects (lawful N p in_limits)).1 c.0 in
        let d : b ≡ bound N p.cut = c.1 in
        rw (answered, v, d),
  )

  -- and then no flow with a shorter horizon delivers the amount
  pub zero_least : (b : ℕ) → examined octets plan ≡ Verdict 0 b → Least N p.amount p.horizon
  zero_least b a =
      verdict_least p formed.connects in_limits.one_per_place (ap verdict_of (sym answered ∙ a))

-- ---- of all inputs, by the paper's numbers of the answer

-- the records of a network and of a plan for it that shows what a plan is to show
pub record Shown (octets plan : List ℕ) : Type 0 where
  pub network : Network
  pub shown : Plan
  pub octets_left : List ℕ
  pub plan_left : List ℕ
  pub network_read : read_network octets ≡ accepted network octets_left
  pub plan_read : read_carrying octets network.places (count network) plan ≡ accepted shown plan_left
  pub certified : Certified network shown

-- the records of a network and of a plan for it, whatever the plan's verdict
record WereRead (octets plan : List ℕ) : Type 0 where
  network : Network
  shown : Plan
  octets_left : List ℕ
  plan_left : List ℕ
  network_read : read_network octets ≡ accepted network octets_left
  plan_read : read_carrying octets network.places (count network) plan ≡ accepted shown plan_left

module _ (octets plan : List ℕ) where
  -- no refusal: a verdict, 0 or another
  were_read : examine_refusal_of (examined octets plan) ≡ 0 → WereRead octets plan
  unfolding examined examined_for examined_plan
  were_read f = from_network (read_network octets) refl
    where
      from_plan : (N : Network) (r : List ℕ) → read_network octets ≡ accepted N r → (q : Parse Plan)
          → read_carrying octets N.places (count N) plan ≡ q → WereRead octets plan
      from_plan N r w (refused e) u =
          absurd (omega (arith, positive e, rw (w, u) at f))
      from_plan N r w (accepted p s) u =
          record { network = N; shown = p; octets_left = r; plan_left = s; network_read = w; plan_read = u }

      from_network : (q : Parse Network) → read_network octets ≡ q → WereRead octets plan
      from_network (refused e) w = absurd (omega (arith, positive e, rw w at f))
      from_network (accepted N r) w = from_plan N r w (read_carrying octets N.places (count N) plan) refl

  -- no refusal and the verdict 0
  pub shown_of : examine_refusal_of (examined octets plan) ≡ 0 → verdict_of (examined octets plan) ≡ 0 → Shown octets plan
  shown_of f v =
      let r = were_read f in
      let b : ℕ = bound r.network r.shown.cut in
      let found = answered octets plan r.network r.shown r.octets_left r.plan_left r.network_read r.plan_read in
      let zero : verdict r.network r.shown ≡ 0 = ap verdict_of (sym found) ∙ v in
      record {
        network = r.network;
        shown = r.shown;
        octets_left = r.octets_left;
        plan_left = r.plan_left;
        network_read = r.network_read;
        plan_read = r.plan_read;
        certified =
            ((zero_exactly octets plan r.network r.shown r.octets_left r.plan_left r.network_read r.plan_read b).0
            (found ∙ ap (λ (n : ℕ). Verdict n b) zero)).0;
      }

  pub of_shown : (s : Shown octets plan) → examined octets plan ≡ Verdict 0 (bound s.network s.shown.cut)
  of_shown s =
      (zero_exactly octets plan s.network s.shown s.octets_left s.plan_left s.network_read s.plan_read
      (bound s.network s.shown.cut)).1 (s.certified, refl)

  -- the verdict 0 for exactly the plans that show what a plan is to show
  pub demand_2 : ((examine_refusal_of (examined octets plan) ≡ 0) × (verdict_of (examined octets plan) ≡ 0)) ↔ Shown octets plan
  demand_2 = (λ a. shown_of a.0 a.1, λ s. (ap examine_refusal_of (of_shown s), ap verdict_of (of_shown s)))

  -- a plan that is given a verdict, 0 or another, carries the octets of the network it was examined with
  pub verdict_carries : Octets plan → examine_refusal_of (examined octets plan) ≡ 0 → (p : Plan) × (plan ≡ carrying octets p)
  verdict_carries o f =
      let r = were_read f in (
        r.shown,
        carrying_written octets r.network.places (count r.network) plan r.shown r.plan_left r.plan_read o,
      )

  -- a plan that passes
  pub shown_carries : Octets plan → (s : Shown octets plan) → plan ≡ carrying octets s.shown
  shown_carries o s =
      carrying_written octets s.network.places (count s.network) plan s.shown s.plan_left s.plan_read o
