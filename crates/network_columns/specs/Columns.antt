-- A network whose links have other capacities, or other transits: link e has the e-th number of a list, and keeps its other numbers.
use Rattle.std.specs.Prelude.{List, [], ◌∷◌, ℕ, get_or, drop}
use Rattle.flows.specs.declared.Link.{Link}
use Rattle.flows.specs.Network.{Network}

-- a link with this capacity
abbrev pub of_capacity : Link → ℕ → Link
of_capacity l n = record { start = l.start; end = l.end; capacity = n; transit = l.transit }

-- a link with this transit
abbrev pub of_transit : Link → ℕ → Link
of_transit l n = record { start = l.start; end = l.end; capacity = l.capacity; transit = n }

-- each link with its number of a list, 0 if the list has none for it
unfoldable pub each : (Link → ℕ → Link) → List Link → List ℕ → List Link
each change [] ns = []
each change (l ∷ ls) ns = change l (get_or ns 0 0) ∷ each change ls (drop 1 ns)

abbrev pub with_each : (Link → ℕ → Link) → Network → List ℕ → Network
with_each change N ns = record { places = N.places; origin = N.origin; destination = N.destination; links = each change N.links ns }

unfoldable pub with_capacities : Network → List ℕ → Network
with_capacities N ns = with_each of_capacity N ns

unfoldable pub with_transits : Network → List ℕ → Network
with_transits N ns = with_each of_transit N ns
