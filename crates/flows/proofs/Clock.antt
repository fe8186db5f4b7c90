-- The laws of the clock: all that the theory knows of it. Assumes nothing.
use mathlib.Core.Path.{◌≡◌, refl}
use Prim.Native.Nat.{ℕ, suc, ◌-◌, ◌≤◌}
use native.Mathlib.Nat.{le_refl}
use native.Mathlib.Omega.{arith}
use Rattle.limits.specs.Limits.{least_plan_horizon, longest_horizon, longest_plan_horizon, most_cut_number}
use Rattle.flows.specs.Clock.{counting}
use Rattle.flows.specs.Span.{spanning}

-- no more slots count than there are
pub counting_within : (T : ℕ) → counting T ≤ T
unfolding counting
counting_within T = le_refl T

-- of a longer horizon no fewer slots count
pub counting_longer : {H T : ℕ} → H ≤ T → counting H ≤ counting T
unfolding counting
counting_longer p = p

pub counting_spanning : (slots : ℕ) → counting (spanning slots) ≡ slots
unfolding counting spanning
counting_spanning slots = refl

-- of one slot less one fewer counts
pub counting_shorter : (slots : ℕ) → counting (spanning (suc slots) - 1) ≡ slots
unfolding counting spanning
counting_shorter slots = omega arith

-- within the limits of a plan: its horizon is one if some slots count, and no more than a cut's numbers go
pub spanning_least : (slots : ℕ) → 1 ≤ slots → least_plan_horizon ≤ spanning slots
unfolding spanning
spanning_least slots p = p

pub spanning_most : (slots : ℕ) → slots ≤ most_cut_number → spanning slots ≤ longest_plan_horizon
unfolding spanning
spanning_most slots p = p

-- and of a horizon that may be tried no more slots count than that
pub counting_most : (H : ℕ) → H ≤ longest_horizon → counting H ≤ most_cut_number
unfolding counting
counting_most H p = p
