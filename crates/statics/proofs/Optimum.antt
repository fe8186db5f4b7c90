-- A static flow and potentials in slackness prove each other best: what the flow attains over time is the bound of the cut. Assumes
-- nothing.
use mathlib.Core.Path.{◌≡◌}
use mathlib.Core.List.{List}
use Prim.Native.Nat.{ℕ, ◌-◌, ◌*◌}
use native.Mathlib.Omega.{arith}
use Rattle.flows.specs.Clock.{counting}
use Rattle.flows.specs.Network.{Network, Connects}
use Rattle.flows.specs.Flow.{Most}
use Rattle.flows.specs.Cut.{IsCut, bound}
use Rattle.flows.proofs.Holding.{unheld_delivers}
use Rattle.flows.proofs.Duality.{weak_duality}
use Rattle.statics.specs.Static.{cost, StaticFlow, Slackness}
use Rattle.statics.proofs.Strong.{strong_duality}
use Rattle.statics.proofs.Attain.{attain}

-- a cut whose bound is what the flow attains
pub most_at_bound : {N : Network} {x ρ : List ℕ} {v H : ℕ} → Connects N → StaticFlow N x v → IsCut N H ρ → bound N ρ ≡ counting H * v - cost N x
    → Most N H (counting H * v - cost N x)
most_at_bound {N} {x} {ρ} {v} {H} connects flow cut met =
    record {
      attained = unheld_delivers (attain connects flow H);
      exceeded_by_none = λ f h. omega (arith, weak_duality connects h cut);
    }

module _ {N : Network} {x π : List ℕ} {v H : ℕ} (connects : Connects N) (flow : StaticFlow N x v) (slackness : Slackness N x π)
    (cut : IsCut N H π) where
  pub optimum_bound : bound N π ≡ counting H * v - cost N x
  optimum_bound = omega (arith, rw cut.at_destination at (strong_duality connects flow slackness cut.at_origin))

  pub optimum : Most N H (counting H * v - cost N x)
  optimum = most_at_bound connects flow cut optimum_bound
