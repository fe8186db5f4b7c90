-- The law of a loop that takes no slot: at every place, before every slot, it has taken what it has brought. Assumes nothing.
use mathlib.Core.Path.{◌≡◌, ap}
use mathlib.Core.List.{List}
use Prim.Native.Nat.{ℕ, ◌+◌, ◌-◌, ◌*◌, min}
use native.Mathlib.Omega.{arith}
use Rattle.flows.specs.Sums.{only}
use Rattle.flows.specs.Network.{Network}
use Rattle.flows.specs.Flow.{left, arrived}
use Rattle.flows.specs.Rows.{Leads, duration, uses_from, entering}
use Rattle.flows.proofs.Rows.{chain_law}

module _ (N : Network) (es : List ℕ) (u : ℕ) (leads : Leads N u u es) (still : duration N es ≡ 0) (rate departures at : ℕ) where
  -- rate blocks go round in each slot from `at` on, as many slots as departures
  abbrev pub round : ℕ → ℕ → ℕ
  round e s = entering (uses_from N rate departures at es) e s

  -- at every place, before every slot, the loop has taken what it has brought
  pub loop_law : (v k : ℕ) → left N round v k ≡ arrived N round v k
  loop_law v k =
      let same : k - (at + duration N es) ≡ k - at = omega arith in
      omega (arith, chain_law N rate departures v k es u u at leads, ap (λ (n : ℕ). only u v (rate * min departures n)) same)
