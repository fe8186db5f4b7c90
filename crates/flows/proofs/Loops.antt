-- Loops of hops that take no slot: a chain that leads back to its start and lasts no slot takes from each of its places what it brings
-- there in the same slot. So a flow stays a flow when blocks go round a loop besides, whether any block reached the loop or not, and
-- it delivers the same: least horizons and mosts are over such flows too. Assumes nothing.
use mathlib.Core.Path.{◌≡◌}
use mathlib.Core.List.{List}
use Prim.Native.Nat.{ℕ, suc, ◌+◌, ◌≤◌, ◌<◌}
use native.Mathlib.Omega.{arith}
use Rattle.flows.specs.Clock.{counting}
use Rattle.flows.specs.Network.{Network, link, count}
use Rattle.flows.specs.Flow.{delivered, IsFlow}
use Rattle.flows.specs.Rows.{Leads, duration}
use Rattle.flows.proofs.Slots.{left_add, arrived_add}
use Rattle.flows.proofs.Rows.{chain_inside}
use Rattle.flows.proofs.LoopLaw as law
pub use Rattle.flows.proofs.LoopLaw.{loop_law}

module _ (N : Network) (es : List ℕ) (u : ℕ) (leads : Leads N u u es) (still : duration N es ≡ 0) (rate departures at : ℕ) where
  abbrev pub round : ℕ → ℕ → ℕ
  round = law.round N es u leads still rate departures at

  module _ (T : ℕ) (f : ℕ → ℕ → ℕ) where
    pub loop_flow : IsFlow N T f → at + departures ≤ counting T
        → ((e s : ℕ) → e < count N → f e s + round e s ≤ (link N e).capacity) → IsFlow N T (λ e s. f e s + round e s)
    loop_flow flow timely fits =
        record {
          within = fits;
          inside = λ e s p q. omega (
            arith,
            flow.inside e s p q,
            chain_inside N (counting T) rate departures e s es at (omega arith) q,
          );
          conserved = λ v s p q r. omega (
            arith,
            flow.conserved v s p q r,
            loop_law N es u leads still rate departures at v (suc s),
            left_add N f round v (suc s),
            arrived_add N f round v (suc s),
          );
        }

    pub loop_delivers : delivered N T (λ e s. f e s + round e s) ≡ delivered N T f
    unfolding delivered
    loop_delivers =
        let d : ℕ = N.destination in
        let k : ℕ = counting T in
        omega (arith, loop_law N es u leads still rate departures at d k, left_add N f round d k, arrived_add N f round d k)
