-- What is left of a network while a flow is taken apart: its links, and the blocks on them for capacities.
use Rattle.std.specs.Prelude.{◌≡◌, List, ℕ, ◌≤◌, ◌<◌, length, get_or, Option, IfSome}
use Rattle.limits.specs.Limits.{most_row_links}
use Rattle.flows.specs.Network.{Network, count, link}
use Rattle.network.specs.declared.Network as held
use Rattle.network.specs.Held.{model_of}
use Rattle.statics.specs.Reach.{IsRoute}
use Rattle.routes.specs.declared.Route.{Route}
use Rattle.routes.specs.Route.{links_of}

-- M is what is left of N, whatever its places and transits
pub record Remains (N : Network) (left : List ℕ) (M : Network) : Type 0 where
  pub origin : M.origin ≡ N.origin
  pub destination : M.destination ≡ N.destination
  pub links : count M ≡ count N
  pub start : (e : ℕ) → e < count N → (link M e).start ≡ (link N e).start
  pub end : (e : ℕ) → e < count N → (link M e).end ≡ (link N e).end
  pub capacity : (e : ℕ) → e < count N → (link M e).capacity ≡ get_or left e 0

-- the links are a route over it
abbrev pub IsRouteOver : (net : held.Network) (left es : List ℕ) → Type 0
IsRouteOver net left es = (M : Network) → Remains (model_of net) left M → IsRoute M es

-- what is called a route is one
pub record IsHinted (net : held.Network) (left : List ℕ) (r : Route) : Type 0 where
  pub size : length r.links ≡ most_row_links
  pub short : r.count ≤ most_row_links
  pub leads : IsRouteOver net left (links_of r)

abbrev pub HintedRoute : (net : held.Network) (left : List ℕ) → Option Route → Type 0
HintedRoute net left r = IfSome r (IsHinted net left)
