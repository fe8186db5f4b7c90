-- What a search of the residual network from the origin finds: distances by reduced costs, and a tree of arcs by which places were
-- reached. Callers need no more of a search than this.
use Rattle.std.specs.Prelude.{◌≡◌, ◌≢◌, true, false, List, ℕ, ◌+◌, ◌*◌, ◌≤◌, ◌<◌, min, length, get_or}
use Rattle.limits.specs.Limits.{most_places, most_links, most_transit}
use Rattle.flows.specs.Network.{Network, link, count, Connects}
use Rattle.flows.specs.Cut.{number}
use Rattle.statics.specs.Static.{Slackness}
use Rattle.residual.specs.declared.Tree.{Tree}
use Rattle.residual.specs.Residual.{link_of, tail, head, room, arc_cost}

-- the distance of a place that was not reached: above every distance and every horizon
abbrev pub far : ℕ
far = 1000000000

-- the most that a settled place's distance and its potential make together: the transits of a path that visits no place twice
abbrev pub farthest : ℕ
farthest = most_places * most_transit

-- 0 for a place that was not settled, else its turn
abbrev pub rank : Tree → ℕ → ℕ
rank t v = get_or t.rank v 0

abbrev pub distance : Tree → ℕ → ℕ
distance t v = get_or t.distance v 0

-- the arc by which a place was reached
abbrev pub arc : Tree → ℕ → ℕ
arc t v = get_or t.arc v 0

-- the arc by which a settled place was reached comes from a place settled before it, and the distances differ by its reduced cost
pub record Reached (N : Network) (x π : List ℕ) (t : Tree) (v : ℕ) : Type 0 where
  pub known : link_of (arc t v) < count N
  pub ends : head N (arc t v) ≡ v
  pub has_room : 0 < room N x (arc t v)
  pub settled : 0 < rank t (tail N (arc t v))
  pub before : rank t (tail N (arc t v)) < rank t v
  pub step : distance t v ≡ distance t (tail N (arc t v)) + arc_cost N π (arc t v)

pub record Searched (N : Network) (x π : List ℕ) (t : Tree) : Type 0 where
  pub ranks : length t.rank ≡ most_places
  pub distances : length t.distance ≡ most_places
  pub arcs : length t.arc ≡ most_places
  pub rank_most : (v : ℕ) → rank t v ≤ N.places
  pub rank_places : (v : ℕ) → 0 < rank t v → v < N.places
  pub root : rank t N.origin ≡ 1
  pub root_distance : distance t N.origin ≡ 0
  pub reached : (v : ℕ) → 0 < rank t v → v ≢ N.origin → Reached N x π t v
  -- no place is farther than the destination, or than `far` where the destination was not reached: so far potentials may be raised
  pub near : (v : ℕ) → 0 < rank t v → distance t v ≤ t.reach
  pub short : (v : ℕ) → 0 < rank t v → distance t v + number π v ≤ farthest
  pub reach_at : distance t N.destination ≡ t.reach
  -- along every arc with room, distances capped by the reach grow by no more than the reduced cost
  pub capped : (a : ℕ) → link_of a < count N → 0 < room N x a
      → min (distance t (head N a)) t.reach ≤ min (distance t (tail N a)) t.reach + arc_cost N π a
  pub found : t.found ≡ true → 0 < rank t N.destination
  -- not found: the settled places are closed under arcs with room, and the destination is not among them
  pub lost : t.found ≡ false → (rank t N.destination ≡ 0) × (t.reach ≡ far)
  pub closed : t.found ≡ false → (a : ℕ) → link_of a < count N → 0 < room N x a → 0 < rank t (tail N a) → 0 < rank t (head N a)

-- a network that a search's arrays have room for
pub record Sized (N : Network) : Type 0 where
  pub connects : Connects N
  pub places_most : N.places ≤ most_places
  pub links_most : count N ≤ most_links
  pub transit_most : (e : ℕ) → e < count N → (link N e).transit ≤ most_transit

-- what a search asks for
pub record Searchable (N : Network) (x π : List ℕ) : Type 0 where
  pub sized : Sized N
  pub flows : length x ≡ most_links
  pub potentials : length π ≡ most_places
  pub at_origin : number π N.origin ≡ 0
  pub slackness : Slackness N x π
