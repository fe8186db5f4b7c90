-- A chain peeled off the blocks on the links.
use Rattle.std.specs.Prelude.{◌≡◌, List, ℕ, ◌+◌, ◌*◌, ◌<◌}
use Rattle.flows.specs.Network.{Network, count}
use Rattle.flows.specs.Rows.{IsChain}
use Rattle.statics.specs.Static.{on_link}
use Rattle.statics.specs.Reach.{uses}

-- x is what y leaves when b blocks are taken off for each use of a link by the chain es
pub record Peeled (N : Network) (y es : List ℕ) (b : ℕ) (x : List ℕ) : Type 0 where
  pub chain : IsChain N es
  pub taken : (e : ℕ) → e < count N → on_link y e ≡ on_link x e + uses es e * b
