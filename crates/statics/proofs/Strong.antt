-- Strong duality: by slackness, what is on a link, weighed by the number at its end, is its part of the bound, its part of the
-- cost and the same weighed by the number at its start; balance, weighed by the numbers, sums these up. Assumes nothing.
use mathlib.Core.Path.{◌≡◌, ap, ◌∙◌}
use mathlib.Core.List.{List}
use Prim.Native.Nat.{ℕ, ◌+◌, ◌-◌, ◌*◌, ◌≤◌, ◌<◌}
use native.Mathlib.Nat.{add-zero, mul-add, mul_comm, mul-zero, zero-mul}
use native.Mathlib.Omega.{arith}
use native.Mathlib.Decide.{dec_lt}
use Rattle.flows.specs.Network.{Network, link, count, Connects}
use Rattle.flows.specs.Cut.{number, counted, slack, bound}
use Rattle.flows.proofs.Sums.{sum_eq, sum_add}
use Rattle.flows.proofs.Cut.{counted_slack}
use Rattle.statics.specs.Static.{on_link, cost, StaticFlow, Slackness}
use Rattle.statics.proofs.Balance.{weighted}

-- x blocks on a link of capacity c, from the number s (with the transit) to the number t
link_part : (x c s t : ℕ) → x ≤ c → (x < c → t ≤ s) → (0 < x → s ≤ t) → x * t ≡ c * (t - s) + x * s
link_part x c s t within room used =
    elim (dec_lt 0 x) [
      | no p ↦ elim (dec_lt x c) [
        | yes q ↦ let e : x ≡ 0 = omega arith in let z : t - s ≡ 0 = omega (arith, room q) in rw (e, z, zero-mul, zero-mul, mul-zero)
        | no q ↦ let e : x ≡ 0 = omega arith in let f : c ≡ 0 = omega arith in rw (e, f, zero-mul, zero-mul, zero-mul)
      ]
      | yes p ↦ elim (dec_lt x c) [
        | yes q ↦ let z : t ≡ s = omega (arith, room q, used p) in let y : t - s ≡ 0 = omega arith in rw (y, z, mul-zero) (omega arith)
        | no q ↦ let f : c ≡ x = omega arith in rw (f, ← mul-add) (ap (λ (n : ℕ). x * n) (omega (arith, used p)))
      ]
    ]

module _ {N : Network} {x π : List ℕ} {v : ℕ} (connects : Connects N) (flow : StaticFlow N x v) (slackness : Slackness N x π) where
  at_link : (e : ℕ) → e < count N
      → on_link x e * number π (link N e).end
      ≡ (link N e).capacity * counted (slack N π e) + (on_link x e * number π (link N e).start + (link N e).transit * on_link x e)
  at_link e p =
      rw (counted_slack, mul_comm (link N e).transit (on_link x e), ← mul-add)
      (link_part (on_link x e) (link N e).capacity (number π (link N e).start + (link N e).transit) (number π (link N e).end)
      (flow.within e p) (slackness.room e p) (slackness.used e p))

  pub strong_duality : number π N.origin ≡ 0 → number π N.destination * v ≡ bound N π + cost N x
  unfolding bound cost
  strong_duality z =
      omega (
        arith,
        sum_eq (count N) at_link,
        sum_add (λ e. (link N e).capacity * counted (slack N π e))
            (λ e. on_link x e * number π (link N e).start + (link N e).transit * on_link x e) (count N),
        sum_add (λ e. on_link x e * number π (link N e).start) (λ e. (link N e).transit * on_link x e) (count N),
        weighted N (number π) (on_link x) v N.origin 0 flow.balanced connects connects.origin_in,
        ap (λ (t : ℕ). t * number π N.destination) (add-zero v) ∙ mul_comm v (number π N.destination),
        ap (λ (t : ℕ). v * t) z ∙ mul-zero v,
        zero-mul (number π N.origin),
      )
