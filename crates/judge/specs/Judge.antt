-- The part of a plan's verdict that the cut decides.
use Rattle.std.specs.Prelude.{cond, List, ℕ, ◌-◌}
use Rattle.flows.specs.Network.{Network}
use Rattle.flows.specs.Plan.{miscut, unproven}

-- "the first that applies", of the verdicts on the cut π, for the amount and the horizon T
unfoldable pub cut_fault : Network → ℕ → ℕ → List ℕ → ℕ
cut_fault N amount T π = cond (miscut N (T - 1) π) 5 (cond (unproven N amount π) 6 0)
