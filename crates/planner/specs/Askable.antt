-- What planning on a network asks for.
use Rattle.std.specs.Prelude.{List, ℕ, ◌≤◌, length}
use Rattle.limits.specs.Limits.{least_amount, most_amount, plan_buffer}
use Rattle.flows.specs.Network.{Network, WellFormed}

-- a network, an amount and a buffer within their limits
pub record Askable (N : Network) (amount : ℕ) (buffer : List ℕ) : Type 0 where
  pub well_formed : WellFormed N
  pub low : least_amount ≤ amount
  pub high : amount ≤ most_amount
  pub room : plan_buffer ≤ length buffer
