-- A network: "places", one the "origin" and another the archive ("destination"), and "links" that go one way between two places.
-- In the field's terms a place is a node, a link an arc, the origin the source and the destination the sink.
use Rattle.std.specs.Prelude.{◌≢◌, List, ℕ, ◌≤◌, ◌<◌, length, get_or}
use Rattle.limits.specs.Limits.{fewest_places, most_places, fewest_links, most_links, most_capacity, most_transit}
use Rattle.flows.specs.declared.Link.{Link}
use Rattle.flows.specs.Sums.{gather}

-- links are numbered from 0 in the list's order
pub record Network : Type 0 where
  pub places : ℕ
  pub origin : ℕ
  pub destination : ℕ
  pub links : List Link

-- what stands at a number that is no link's
abbrev pub no_link : Link
no_link = record { start = 0; end = 0; capacity = 0; transit = 0 }

-- the number of links
abbrev pub count : Network → ℕ
count N = length N.links

-- the link of a number
unfoldable pub link : Network → ℕ → Link
link N e = get_or N.links e no_link

-- the sum of x over the links that start at v
abbrev pub out : Network → (ℕ → ℕ) → ℕ → ℕ
out N x v = gather (λ e. (link N e).start) (count N) x v

-- the sum of x over the links that end at v
abbrev pub into : Network → (ℕ → ℕ) → ℕ → ℕ
into N x v = gather (λ e. (link N e).end) (count N) x v

-- "Origin, destination and link ends are below the number of places", and the archive is another place than the origin.
-- The theory needs no more of a network than this.
pub record Connects (N : Network) : Type 0 where
  pub origin_in : N.origin < N.places
  pub destination_in : N.destination < N.places
  pub apart : N.destination ≢ N.origin
  pub start_in : (e : ℕ) → e < count N → (link N e).start < N.places
  pub end_in : (e : ℕ) → e < count N → (link N e).end < N.places

-- a network within document 01's limits
pub record WellFormed (N : Network) : Type 0 where
  pub connects : Connects N
  pub places_least : fewest_places ≤ N.places
  pub places_most : N.places ≤ most_places
  pub links_least : fewest_links ≤ count N
  pub links_most : count N ≤ most_links
  pub no_loop : (e : ℕ) → e < count N → (link N e).start ≢ (link N e).end
  pub capacity_most : (e : ℕ) → e < count N → (link N e).capacity ≤ most_capacity
  pub transit_most : (e : ℕ) → e < count N → (link N e).transit ≤ most_transit
