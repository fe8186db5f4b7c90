-- A route over the blocks that are left: what is asked of them, and what is found.
use Rattle.std.specs.Prelude.{ℕ, ◌≤◌, ◌<◌, List, length}
use Rattle.limits.specs.Limits.{most_row_links}
use Rattle.flows.specs.Network.{Network}
use Rattle.flows.specs.Rows.{IsChain}
use Rattle.statics.specs.Static.{on_link, StaticFlow}
use Rattle.statics.specs.Reach.{uses, Simple}

-- a static flow with a value
pub record Flowing (N : Network) (x : List ℕ) : Type 0 where
  pub value : ℕ
  pub static : StaticFlow N x value
  pub some : 0 < value

-- a route over links with blocks
pub record Carries (N : Network) (x es : List ℕ) : Type 0 where
  pub chain : IsChain N es
  pub simple : Simple N es
  pub has : (e : ℕ) → 0 < uses es e → 0 < on_link x e
  pub short : length es ≤ most_row_links
