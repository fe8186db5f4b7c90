-- What the test of a static flow against potentials shows, of one link and of all.
use Rattle.std.specs.Prelude.{List, ℕ, ◌+◌, ◌≤◌, ◌<◌}
use Rattle.flows.specs.Network.{Network, link, count}
use Rattle.statics.specs.Static.{on_link, Slackness}

-- a link: no more is on it than its capacity, and slackness holds between that and the potentials at its start and its end
pub record Fits (capacity blocks transit start end : ℕ) : Type 0 where
  pub within : blocks ≤ capacity
  pub room : blocks < capacity → end ≤ start + transit
  pub used : 0 < blocks → start + transit ≤ end

-- the same of all links
pub record AllFit (N : Network) (x π : List ℕ) : Type 0 where
  pub within : (e : ℕ) → e < count N → on_link x e ≤ (link N e).capacity
  pub slackness : Slackness N x π
