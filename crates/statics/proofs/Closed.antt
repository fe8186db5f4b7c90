-- A set of places that no link with room leaves: a static flow does not leave it either, since weighed by the set every link brings
-- at least what it takes; nor does a chain, link by link. And a chain that is there carries its blocks, so no cut's bound is below
-- them. Assumes nothing.
use mathlib.Core.Path.{◌≡◌, sym, ap, ◌∙◌}
use mathlib.Core.List.{List, [], ◌∷◌}
use Prim.Native.Nat.{ℕ, ◌+◌, ◌*◌, ◌≤◌, ◌<◌, min}
use native.Mathlib.Nat.{le_trans, mul-le-mul_left, mul-one, mul-zero, zero-mul, one-mul}
use native.Mathlib.Omega.{arith}
use native.Mathlib.Decide.{dec_lt}
use lib.ListN.{length}
use Rattle.flows.specs.Clock.{counting}
use Rattle.flows.specs.Span.{spanning}
use Rattle.flows.specs.Network.{Network, link, count, Connects}
use Rattle.flows.specs.Flow.{Delivers}
use Rattle.flows.specs.Cut.{number, IsCut, bound}
use Rattle.flows.specs.Rows.{Leads, IsChain, duration, Row, load}
use Rattle.flows.proofs.Clock.{counting_spanning}
use Rattle.flows.proofs.Sums.{sum_le}
use Rattle.flows.proofs.Holding.{unheld_delivers, rows_deliver}
use Rattle.flows.proofs.Uses.{load_none, load_cons}
use Rattle.flows.proofs.Duality.{weak_duality}
use Rattle.statics.specs.Static.{on_link, StaticFlow}
use Rattle.statics.specs.Potentials.{Potentials}
use Rattle.statics.specs.Reach.{uses, Open, Reachable}
use Rattle.statics.specs.Closed.{mark, Separates}
use Rattle.statics.proofs.Balance.{weighted}
use Rattle.statics.proofs.Chains.{open_used, chain_load}
use Rattle.statics.proofs.Potentials.{take_cut, take_bound}

-- the weight of a place: 1 in the set, 0 outside
abbrev in_set : List ℕ → ℕ → ℕ
in_set marks u = min 1 (mark marks u)

module _ {N : Network} {x : List ℕ} {v : ℕ} {marks : List ℕ} (connects : Connects N) (flow : StaticFlow N x v)
    (separates : Separates N (on_link x) marks) where
  at_link : (e : ℕ) → e < count N → on_link x e * in_set marks (link N e).start ≤ on_link x e * in_set marks (link N e).end
  at_link e p =
      elim (dec_lt 0 (on_link x e)) [
        | yes q ↦ mul-le-mul_left (on_link x e) (elim (dec_lt 0 (mark marks (link N e).start)) [
          | yes r ↦ omega (arith, separates.closed e p q r)
          | no r ↦ omega arith
        ])
        | no q ↦ let z : on_link x e ≡ 0 = omega arith in rw (z, zero-mul, zero-mul) (omega arith)
      ]

  pub separated_value : v ≡ 0
  separated_value =
      let one : in_set marks N.origin ≡ 1 = omega (arith, separates.holds) in
      let none : in_set marks N.destination ≡ 0 = omega (arith, separates.misses) in
      omega (
        arith,
        sum_le (count N) at_link,
        weighted N (in_set marks) (on_link x) v N.origin 0 flow.balanced connects connects.origin_in,
        ap (λ (t : ℕ). (v + 0) * t) none ∙ mul-zero (v + 0),
        ap (λ (t : ℕ). v * t) one ∙ mul-one v,
      )

-- a chain of open links that starts in the set ends in it
stays : (N : Network) (marks : List ℕ) → Separates N (λ e. (link N e).capacity) marks → (es : List ℕ) (u w : ℕ) → Leads N u w es → Open N es
    → 0 < mark marks u → 0 < mark marks w
stays N marks s [] u w c o h = rw (← c) h
stays N marks s (e ∷ es) u w c o h = stays N marks s es (link N e).end w c.2 o.1 (s.closed e c.0 (omega (arith, o.0)) (rw c.1 h))

pub separated_unreachable : {N : Network} {marks : List ℕ} → Separates N (λ e. (link N e).capacity) marks → Reachable N → ⊥
separated_unreachable {N} {marks} s r =
    omega (arith, stays N marks s r.chain N.origin N.destination r.leads r.opens s.holds, s.misses)

-- a chain of open links that uses none twice carries a block in each slot
module _ {N : Network} (connects : Connects N) (es : List ℕ) (chain : IsChain N es) (opens : Open N es) (once : (e : ℕ) → uses es e ≤ 1)
    (amount : ℕ) where
  row : Row
  row = record { links = es; length = duration N es; rate = 1; first = 0; departures = amount }

  row_fits : (e s : ℕ) → e < count N → load N (row ∷ []) e s ≤ (link N e).capacity
  unfolding row
  row_fits e s p =
      let l : load N (row ∷ []) e s ≤ uses es e =
      omega (arith, load_cons N row [] e s, load_none N e s, chain_load N 1 amount es 0 e s, mul-one (uses es e)) in
      elim (dec_lt 0 (uses es e)) [
        | yes q ↦ omega (arith, open_used N es opens e q, once e)
        | no q ↦ omega arith
      ]

  pub chain_delivers : (H : ℕ) → duration N es + amount ≤ counting H → Delivers N H amount
  unfolding row
  chain_delivers H p =
      let d = unheld_delivers (rows_deliver {T = H} (row ∷ []) connects (chain, tt) (omega arith, tt) row_fits) in
      record { entries = d.entries; flow = d.flow; enough = omega (arith, d.enough, one-mul amount) }

  pub chain_bound : {H : ℕ} {π : List ℕ} → IsCut N H π → duration N es + amount ≤ counting H → amount ≤ bound N π
  chain_bound {H} {π} cut p =
      let d = chain_delivers H p in
      le_trans d.enough (weak_duality connects d.flow cut)

  pub chain_potentials_bound : (π : List ℕ) → N.places ≤ length π → Potentials N π → duration N es + amount ≤ number π N.destination
      → amount ≤ bound N π
  chain_potentials_bound π long s p =
      let level : ℕ = number π N.destination in
      let c : counting (spanning level) ≡ level = counting_spanning level in
      rw (take_bound π connects) at (chain_bound (take_cut π connects (spanning level) (sym c) long s) (omega arith))
