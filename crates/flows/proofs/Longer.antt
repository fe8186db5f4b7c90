-- A flow is a flow with each longer horizon too, and delivers the same: nothing enters a link from the slots on that the shorter
-- horizon leaves out, so all counts have stopped. Assumes nothing.
use mathlib.Core.Path.{◌≡◌}
use Prim.Native.Nat.{ℕ, suc, ◌-◌, ◌≤◌}
use native.Mathlib.Omega.{arith}
use native.Mathlib.Decide.{dec_lt}
use Rattle.flows.specs.Network.{Network, link, count}
use Rattle.flows.specs.Clock.{counting}
use Rattle.flows.specs.Flow.{left, arrived, delivered, IsFlow}
use Rattle.flows.proofs.Sums.{sum_stops, gather_eq}
use Rattle.flows.proofs.Clock.{counting_within, counting_longer}
use Rattle.flows.proofs.Duality.{conserved_before}

module _ {N : Network} {T : ℕ} {f : ℕ → ℕ → ℕ} (flow : IsFlow N T f) where
  left_stops : (v k : ℕ) → counting T ≤ k → left N f v k ≡ left N f v (counting T)
  left_stops v k p = gather_eq _ (count N) v (λ e q. sum_stops (f e) (counting T) k p (λ s r. flow.inside e s q (omega arith)))

  arrived_stops : (v k : ℕ) → counting T ≤ k → arrived N f v k ≡ arrived N f v (counting T)
  arrived_stops v k p =
      gather_eq _ (count N) v (λ e q.
      sum_stops (f e) (counting T - (link N e).transit) (k - (link N e).transit) (omega arith) (λ s r. flow.inside e s q (omega arith)))

  pub longer : (U : ℕ) → T ≤ U → IsFlow N U f
  longer U p =
      record {
        within = flow.within;
        inside = λ e s q r. flow.inside e s q (omega (arith, counting_longer p));
        conserved = λ v s i q r. elim (dec_lt s (counting T)) [
          | yes h ↦ flow.conserved v s i q (omega (arith, counting_within T))
          | no h ↦ omega (
            arith,
            conserved_before flow v (counting T) i q (counting_within T),
            left_stops v (suc s) (omega arith),
            arrived_stops v (suc s) (omega arith),
          )
        ];
      }

  pub longer_delivers : (U : ℕ) → T ≤ U → delivered N U f ≡ delivered N T f
  unfolding delivered
  longer_delivers U p =
      omega (
        arith,
        left_stops N.destination (counting U) (counting_longer p),
        arrived_stops N.destination (counting U) (counting_longer p),
      )
