-- Holding gains nothing: for every horizon some static flow is optimal, and what it attains over time it attains without holding. So the
-- most over flows that hold nothing is the most, and with it the least horizon is the least. Assumes nothing.
use mathlib.Core.Path.{◌≡◌}
use mathlib.Core.Logic.{◌↔◌}
use Prim.Native.Nat.{ℕ, ◌-◌, ◌*◌}
use native.Mathlib.Nat.{le_trans}
use native.Mathlib.Omega.{arith}
use Rattle.flows.specs.Clock.{counting}
use Rattle.flows.specs.Network.{Network, Connects}
use Rattle.flows.specs.Flow.{Least, Most}
use Rattle.flows.specs.Holding.{DeliversUnheld, LeastUnheld, MostUnheld}
use Rattle.flows.proofs.Holding.{unheld_delivers, unheld_less, attained_least, attained_most}
use Rattle.flows.proofs.Least.{least_unique, most_unique}
use Rattle.statics.specs.Static.{cost}
use Rattle.statics.proofs.Attain.{attain}
use Rattle.statics.proofs.Existence.{optimal, optimal_most}

-- a most by the horizon H, which a flow attains that holds nothing
pub record SomeMost (N : Network) (H : ℕ) : Type 0 where
  pub most : ℕ
  pub is_most : Most N H most
  pub unheld : DeliversUnheld N H most

module _ {N : Network} (connects : Connects N) where
  -- every horizon has one
  pub some_most : (H : ℕ) → SomeMost N H
  some_most H =
      let o = optimal connects (counting H) in
      record {
        most = counting H * o.value - cost N o.blocks;
        is_most = optimal_most connects o;
        unheld = attain connects o.state.flow H;
      }

  -- ---- the most by a horizon

  pub most_is_unheld : {H m : ℕ} → Most N H m → MostUnheld N H m
  most_is_unheld {H} {m} a =
      let s = some_most H in
      attained_most a (unheld_less m (omega (arith, most_unique a s.is_most)) s.unheld)

  pub unheld_is_most : {H m : ℕ} → MostUnheld N H m → Most N H m
  unheld_is_most {H} {m} a =
      let s = some_most H in
      let d = s.unheld in
      record {
        attained = unheld_delivers a.attained;
        exceeded_by_none = λ f flow. omega (
          arith,
          s.is_most.exceeded_by_none f flow,
          d.enough,
          a.exceeded_by_none d.entries d.unheld,
        );
      }

  -- "the same .. of the most by a horizon"
  pub most_unheld : (H m : ℕ) → Most N H m ↔ MostUnheld N H m
  most_unheld H m = (most_is_unheld, unheld_is_most)

  pub most_same : {H m n : ℕ} → Most N H m → MostUnheld N H n → m ≡ n
  most_same a b = most_unique a (unheld_is_most b)

  -- ---- the least horizon

  pub least_is_unheld : {amount T : ℕ} → Least N amount T → LeastUnheld N amount T
  least_is_unheld {amount} {T} a =
      let s = some_most T in
      let d = a.attained in
      attained_least a (unheld_less amount (le_trans d.enough (s.is_most.exceeded_by_none d.entries d.flow)) s.unheld)

  pub unheld_is_least : {amount T : ℕ} → LeastUnheld N amount T → Least N amount T
  unheld_is_least {amount} {T} a =
      record {
        attained = unheld_delivers a.attained;
        least = λ H f p flow.
            let s = some_most H in
            let d = s.unheld in
            omega (arith, s.is_most.exceeded_by_none f flow, d.enough, a.least H d.entries p d.unheld);
      }

  -- "the least horizon when a block must leave a middle place in the very slot in which it arrives equals the least horizon with
  -- unlimited waiting"
  pub least_unheld : (amount T : ℕ) → Least N amount T ↔ LeastUnheld N amount T
  least_unheld amount T = (least_is_unheld, unheld_is_least)

  pub least_same : {amount T U : ℕ} → Least N amount T → LeastUnheld N amount U → T ≡ U
  least_same a b = least_unique a (unheld_is_least b)
