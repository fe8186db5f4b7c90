-- What reading gives the examiner: a refusal, or the struct of a network and that of a plan within the limits. Assumes nothing.
use mathlib.Core.Path.{◌≡◌, refl, ap, subst⁻¹, ◌∙◌}
use mathlib.Core.List.{List}
use Prim.Native.Nat.{ℕ, ◌-◌, ◌≤◌, ◌<◌}
use native.Mathlib.Omega.{arith}
use lib.ListN.{length, get_or, replicate, length-append, length-replicate}
use Rattle.numbers.specs.Field.{Parse, refused, accepted}
use Rattle.flows.specs.Network.{count}
use Rattle.flows.specs.Network as model-network
use Rattle.flows.specs.Rows as rows
use Rattle.flows.specs.Cut.{bound}
use Rattle.flows.specs.Plan.{verdict}
use Rattle.flows.specs.Plan as model
use Rattle.network.specs.declared.Network.{Network}
use Rattle.network.specs.Record.{read_network}
use Rattle.network.specs.Held.{model_of}
use Rattle.network.proofs.Model.{by_counts}
use Rattle.network.proofs.Answers.{WasRead}
use Rattle.plans.specs.declared.Plan.{Plan}
use Rattle.plans.specs.Carried.{read_carrying}
use Rattle.plans.specs.Held as plans-held
use Rattle.plans.specs.InLimits.{past_row}
use Rattle.plans.proofs.Model as plans-model
use Rattle.plans.proofs.Answers as plans
use Rattle.row_uses.specs.Given.{Stands, Given}
use Rattle.refusals.specs.declared.Refusal.{Refusal}
use Rattle.refusals.specs.Numbers.{number_of}
use Rattle.examiner.specs.Examine.{Examined, Refused, Verdict, examined_plan, examined_for, examined}
use Rattle.examiner.specs.Told.{PlanNumbers, NumbersFor}

-- the links of a row that was read stand in its array
row_stands : (r : rows.Row) → length r.links ≤ 63 → Stands (plans-held.held_row r)
unfolding plans-held.held_row
row_stands r h = record {
  size = h;
  full =
      length-append r.links (replicate (63 - length r.links) 0)
      ∙ omega (arith, length-replicate {A = ℕ} (63 - length r.links) 0);
}

read_stands : {network : List ℕ} {places links : ℕ} {t : List ℕ} {plan : Plan} → plans.WasRead network places links t plan
    → (i : ℕ) → i < plan.count → Stands (get_or plan.rows i plans-held.past)
read_stands {places = places} {plan = plan} read i h =
    let p : model.Plan = plans-held.model_of places plan in
    let l : i < length p.rows = omega (arith, plans-model.length_rows_model places plan) in
    let e : get_or plan.rows i plans-held.past ≡ plans-held.held_row (get_or p.rows i past_row) =
    ap (λ (q : Plan). get_or q.rows i plans-held.past) read.holds ∙ plans-model.row_held p i l in
    rw e (row_stands (get_or p.rows i past_row) (read.in_limits.rows i l).count.high)

-- a network and a plan that were read are as the tests ask
pub read_given : {s t : List ℕ} {net : Network} {plan : Plan} → WasRead s net → plans.WasRead s net.places net.count t plan → Given net plan
read_given n p = record { well_formed = n.well_formed; in_limits = p.in_limits; stands = read_stands p }

-- ---- the answer

plan_numbers : (N : model-network.Network) (x : Parse model.Plan) → PlanNumbers N x (examined_plan N x)
unfolding examined_plan
plan_numbers N (refused e) = record { refusal_number = refl; verdict_number = refl; bound_number = refl }
plan_numbers N (accepted p rest) = record { refusal_number = refl; verdict_number = refl; bound_number = refl }

numbers_for : (octets : List ℕ) (x : Parse model-network.Network) (plan : List ℕ) → NumbersFor octets x plan (examined_for octets x plan)
unfolding examined_for
numbers_for octets (refused e) plan = record { refusal_number = refl; verdict_number = refl; bound_number = refl }
numbers_for octets (accepted N rest) plan = plan_numbers N (read_carrying octets N.places (count N) plan)

-- the answer that `examined` names has the numbers that are promised
pub promised : (octets plan : List ℕ) (answer : Examined) → answer ≡ examined octets plan → (answer ≡ examined octets plan) × NumbersFor octets (read_network octets) plan answer
unfolding examined
promised octets plan answer e =
    (e, subst⁻¹ (NumbersFor octets (read_network octets) plan) e (numbers_for octets (read_network octets) plan))

module _ (s t : List ℕ) where
  pub examined_refused : (e : Refusal) → read_network s ≡ refused e → Refused (number_of e) ≡ examined s t
  unfolding examined examined_for
  examined_refused e w = rw w

  module _ (net : Network) (n : WasRead s net) where
    -- the plan is read by the counts in the network's struct
    pub read_by_counts : read_carrying s (model_of net).places (count (model_of net)) t ≡ read_carrying s net.places net.count t
    read_by_counts = by_counts net (λ (places links : ℕ). read_carrying s places links t)

    pub examined_plan_refused : (e : Refusal) → read_carrying s net.places net.count t ≡ refused e → Refused (number_of e) ≡ examined s t
    unfolding examined examined_for examined_plan
    examined_plan_refused e w = rw (n.reads, read_by_counts, w)

    pub examined_verdict : (plan : Plan) → plans.WasRead s net.places net.count t plan
        → Verdict (verdict (model_of net) (plans-held.model_of net.places plan)) (bound (model_of net) (plans-held.model_of net.places plan).cut)
        ≡ examined s t
    unfolding examined examined_for examined_plan
    examined_verdict plan p = rw (n.reads, read_by_counts, p.reads)
