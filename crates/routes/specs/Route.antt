-- A route as its struct holds it, and what is found where there is none.
use Rattle.std.specs.Prelude.{◌≡◌, ◌≢◌, List, ℕ, ◌≤◌, ◌<◌, length, map, take, drop, Option, Some, None}
use Rattle.limits.specs.Limits.{most_places, most_row_links}
use Rattle.flows.specs.declared.Link.{Link}
use Rattle.flows.specs.Network.{Network, link, count}
use Rattle.network.specs.declared.Network as held
use Rattle.statics.specs.Reach.{IsRoute}
use Rattle.statics.specs.Closed.{Separates}
use Rattle.residual.specs.declared.Tree.{Tree}
use Rattle.residual.specs.Residual.{link_of}
use Rattle.residual.specs.Tree.{rank, arc, Sized}
use Rattle.routes.specs.declared.Route.{Route}
use Rattle.routes.specs.declared.finding.Trail.{Trail}

-- the links of a route's struct
abbrev pub links_of : Route → List ℕ
links_of r = take r.count r.links

-- a route, or a set of places that no link with room leaves, with the origin in it and the destination outside
abbrev pub FoundRoute : Network → Option Route → Type 0
FoundRoute N (Some r) = (length r.links ≡ most_row_links) × IsRoute N (links_of r) × (r.count ≡ length (links_of r))
FoundRoute N None = (marks : List ℕ) × Separates N (λ e. (link N e).capacity) marks

-- the link with the transit 0
abbrev pub still_link : Link → Link
still_link l = record {
  start = l.start;
  end = l.end;
  capacity = l.capacity;
  transit = 0;
}

-- the network with every transit 0, over which the same routes lead
abbrev pub without_transits : held.Network → held.Network
without_transits net = record {
  places = net.places;
  origin = net.origin;
  destination = net.destination;
  count = net.count;
  links = map still_link net.links;
}

-- a settled place of a search over links with capacity, reached over such a link from a place settled before it
pub record Parent (N : Network) (t : Tree) (v : ℕ) : Type 0 where
  pub known : link_of (arc t v) < count N
  pub ends : (link N (link_of (arc t v))).end ≡ v
  pub opens : 1 ≤ (link N (link_of (arc t v))).capacity
  pub settled : 0 < rank t (link N (link_of (arc t v))).start
  pub before : rank t (link N (link_of (arc t v))).start < rank t v

-- a tree from which the path to the destination can be read
pub record Traceable (N : Network) (t : Tree) : Type 0 where
  pub sized : Sized N
  pub arcs : length t.arc ≡ most_places
  pub rank_most : (v : ℕ) → rank t v ≤ most_places
  pub destination : 0 < rank t N.destination
  pub parents : (v : ℕ) → 0 < rank t v → v ≢ N.origin → Parent N t v

-- a route whose links stand at the array's end
pub record IsTrail (N : Network) (r : Trail) : Type 0 where
  pub size : length r.links ≡ most_row_links
  pub first : r.first ≤ most_row_links
  pub route : IsRoute N (drop r.first r.links)
