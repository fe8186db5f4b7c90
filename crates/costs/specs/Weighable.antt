-- A static flow whose cost can be counted.
use Rattle.std.specs.Prelude.{List, ℕ, ◌≤◌, ◌<◌}
use Rattle.flows.specs.Network.{Network, link, count, WellFormed}
use Rattle.statics.specs.Static.{on_link}

-- what counting the cost asks for
pub record Weighable (N : Network) (x : List ℕ) : Type 0 where
  pub well_formed : WellFormed N
  pub within : (e : ℕ) → e < count N → on_link x e ≤ (link N e).capacity
