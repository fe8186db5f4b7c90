-- No flow delivers more than the bound of a cut: add up conservation at each place before the slot that is its number, exchange
-- the sums over places for sums over links, and let each link take in at most its capacity in each slot between. Assumes nothing.
use mathlib.Core.Logic.{◌≢◌}
use mathlib.Core.List.{List}
use Prim.Native.Nat.{ℕ, zero, suc, ◌+◌, ◌-◌, ◌*◌, ◌≤◌, ◌<◌, zero-le}
use native.Mathlib.Omega.{arith}
use native.Mathlib.Decide.{ℕ_discrete}
use Rattle.flows.specs.Sums.{only}
use Rattle.flows.specs.Network.{Network, link, count, Connects}
use Rattle.flows.specs.Flow.{entered, left, arrived, delivered, IsFlow}
use Rattle.flows.specs.Cut.{number, IsCut, counted, slack, bound}
use Rattle.flows.proofs.Sums.{sum_le, sum_add, sum_far, sum_only, only_same, only_other, gather_zero, gather_all}
use Rattle.flows.proofs.Clock.{counting_within}
use Rattle.flows.proofs.Cut.{counted_slack}

-- conservation before slot k, which for k = 0 says nothing
pub conserved_before : {N : Network} {T : ℕ} {f : ℕ → ℕ → ℕ} → IsFlow N T f
    → (v k : ℕ) → v < N.places → v ≢ N.origin → k ≤ T → left N f v k ≤ arrived N f v k
conserved_before flow v zero p q r = rw gather_zero zero-le
conserved_before flow v (suc s) p q r = flow.conserved v s p q r

module _ {N : Network} {H : ℕ} {f : ℕ → ℕ → ℕ} {π : List ℕ} (connects : Connects N) (flow : IsFlow N H f) (cut : IsCut N H π) where
  -- at each place before the slot that is its number; at the origin that is slot 0
  balanced : (v : ℕ) → v < N.places → left N f v (number π v) ≤ arrived N f v (number π v)
  balanced v p =
      elim (ℕ_discrete v N.origin) [
        | yes e ↦ rw (e, cut.at_origin, gather_zero) zero-le
        | no q ↦ conserved_before flow v (number π v) p q (omega (arith, cut.at_most v p, counting_within H))
      ]

  -- at the destination the difference is what is delivered
  at_place : (v : ℕ) → v < N.places
      → left N f v (number π v) + only N.destination v (delivered N H f) ≤ arrived N f v (number π v)
  unfolding delivered
  at_place v p =
      elim (ℕ_discrete N.destination v) [
        | yes e ↦ rw (← e, cut.at_destination, only_same) (omega (arith, rw (← e, cut.at_destination) at (balanced v p)))
        | no q ↦ omega (arith, balanced v p, only_other N.destination v (delivered N H f) q)
      ]

  at_link : (e : ℕ) → e < count N → entered f e (number π (link N e).end - (link N e).transit)
      ≤ entered f e (number π (link N e).start) + (link N e).capacity * counted (slack N π e)
  at_link e p =
      let from : ℕ = number π (link N e).start in
      let to : ℕ = number π (link N e).end in
      let τ : ℕ = (link N e).transit in
      rw counted_slack (sum_far (f e) (link N e).capacity (to - τ) from (to - (from + τ)) (λ s. flow.within e s p) (omega arith))

  pub weak_duality : delivered N H f ≤ bound N π
  unfolding bound
  weak_duality =
      omega (
        arith,
        sum_le N.places at_place,
        sum_add (λ v. left N f v (number π v)) (λ v. only N.destination v (delivered N H f)) N.places,
        sum_only (λ v. delivered N H f) N.destination N.places connects.destination_in,
        gather_all (λ e. (link N e).start) (count N) (λ e v. entered f e (number π v)) N.places connects.start_in,
        gather_all (λ e. (link N e).end) (count N) (λ e v. entered f e (number π v - (link N e).transit)) N.places connects.end_in,
        sum_le (count N) at_link,
        sum_add (λ e. entered f e (number π (link N e).start)) (λ e. (link N e).capacity * counted (slack N π e)) (count N),
      )
