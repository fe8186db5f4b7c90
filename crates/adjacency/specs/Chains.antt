-- The chains of the links whose arcs in a direction leave each place: what the links must be for it, and what they are.
use Rattle.std.specs.Prelude.{◌≡◌, List, map, ℕ, ◌≤◌, ◌<◌, length, get_or}
use Rattle.limits.specs.Limits.{most_places, most_links}
use Rattle.flows.specs.declared.Link.{Link}
use Rattle.flows.specs.Network.{no_link}
use Rattle.buckets.specs.Buckets.{Bucketed}
use Rattle.residual.specs.declared.Chains.{Chains}
use Rattle.residual.specs.declared.Direction.{Direction}
use Rattle.residual.specs.Relax.{tail_of}

-- links that can be put into buckets by place
pub record Chainable (direction : Direction) (links : List Link) : Type 0 where
  pub few : length links ≤ most_links
  pub in_place : (e : ℕ) → e < length links → tail_of direction (get_or links e no_link) < most_places

-- their chains
pub record ByTail (direction : Direction) (links : List Link) (chains : Chains) : Type 0 where
  pub places : length chains.first ≡ most_places
  pub bucketed : Bucketed (map (tail_of direction) links) chains.first chains.next
