-- "Horizon 0 has none [no slots] and delivers 0": before slot 0 nothing has arrived anywhere. The flow in which nothing enters is one
-- with every horizon, so where no flow delivers a block the most is 0. Assumes nothing.
use mathlib.Core.Path.{◌≡◌, refl, ap, ◌∙◌}
use Prim.Native.Nat.{ℕ, suc, ◌-◌, zero-le}
use native.Mathlib.Omega.{arith}
use Rattle.flows.specs.Clock.{counting}
use Rattle.flows.specs.Network.{Network, link, count}
use Rattle.flows.specs.Flow.{entered, left, arrived, delivered, IsFlow, Delivers, Most}
use Rattle.flows.proofs.Clock.{counting_within}
use Rattle.flows.proofs.Sums.{sum_zero, gather_eq, gather_zero}

module _ (N : Network) where
  -- no link takes in a block in any slot
  idle : (T : ℕ) → IsFlow N T (λ e s. 0)
  idle T =
      record {
        within = λ e s p. zero-le;
        inside = λ e s p q. refl;
        conserved = λ v s p q r.
            omega (arith, gather_eq (λ e. (link N e).start) (count N) v (λ e i. sum_zero (suc s)) ∙ gather_zero (λ e. (link N e).start) (count N) v);
      }

  delivers_nothing : (T : ℕ) → Delivers N T 0
  delivers_nothing T = record { entries = λ e s. 0; flow = idle T; enough = zero-le }

  pub most_none : (H : ℕ) → ((f : ℕ → ℕ → ℕ) → IsFlow N H f → delivered N H f ≡ 0) → Most N H 0
  most_none H none = record { attained = delivers_nothing H; exceeded_by_none = λ f flow. omega (arith, none f flow) }

  -- ---- before slot 0, and horizon 0

  pub left_before : (f : ℕ → ℕ → ℕ) (v : ℕ) → left N f v 0 ≡ 0
  left_before f v = gather_zero (λ e. (link N e).start) (count N) v

  pub arrived_before : (f : ℕ → ℕ → ℕ) (v : ℕ) → arrived N f v 0 ≡ 0
  arrived_before f v =
      gather_eq (λ e. (link N e).end) (count N) v (λ e p. let z : 0 - (link N e).transit ≡ 0 = omega arith in ap (entered f e) z)
      ∙ gather_zero (λ e. (link N e).end) (count N) v

  pub horizon_zero_delivers_none : (f : ℕ → ℕ → ℕ) → delivered N 0 f ≡ 0
  unfolding delivered
  horizon_zero_delivers_none f =
      let none : counting 0 ≡ 0 = omega (arith, counting_within 0) in
      rw none (omega (arith, arrived_before f N.destination))

  pub horizon_zero_most_none : Most N 0 0
  horizon_zero_most_none = most_none 0 (λ f flow. horizon_zero_delivers_none f)
