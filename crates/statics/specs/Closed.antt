-- Sets of places that no link with room leaves.
use Rattle.std.specs.Prelude.{◌≡◌, List, ℕ, ◌<◌, get_or}
use Rattle.flows.specs.Network.{Network, link, count}

-- the mark of a place: nonzero if the place is in the set
abbrev pub mark : List ℕ → ℕ → ℕ
mark marks u = get_or marks u 0

-- a set of places with the origin and without the destination, that no link with room leaves: room e is what the link e has, its
-- capacity or the blocks on it
pub record Separates (N : Network) (room : ℕ → ℕ) (marks : List ℕ) : Type 0 where
  pub holds : 0 < mark marks N.origin
  pub misses : mark marks N.destination ≡ 0
  pub closed : (e : ℕ) → e < count N → 0 < room e → 0 < mark marks (link N e).start → 0 < mark marks (link N e).end
