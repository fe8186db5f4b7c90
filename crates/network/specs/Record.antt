-- "Network record: places, origin, destination, links; then for each link its start, end, capacity, transit", and
-- "Read a network": "numbers are tested in record order and the first that fails decides".
use Rattle.std.specs.Prelude.{List, [], ◌∷◌, ◌++◌, cond, ℕ, zero, suc, ◌+◌, ◌-◌, ◌*◌, length, get_or, eqb}
use Rattle.limits.specs.Limits.{fewest_places, most_places, fewest_links, most_links, most_capacity, most_transit}
use Rattle.refusals.specs.declared.Refusal.{Refusal}
use Rattle.refusals.specs.declared.Refusal.TheVariants.{NetworkEnds, NetworkNotShortest, NetworkContinues, NetworkLimits, SameEnds, LinkLoop, NetworkRemains}
use Rattle.numbers.specs.declared.Refusals.{Refusals}
use Rattle.numbers.specs.Leb128.{encode}
use Rattle.numbers.specs.Field.{Parse, refused, accepted, and_then, field, complete}
use Rattle.flows.specs.declared.Link.{Link}
use Rattle.flows.specs.Network.{Network}

-- "for one number: 3 its fourth octet has the top bit set; 1 the record ends before its last octet; 2 not shortest form; 4 outside
-- its limits"
abbrev pub number_refusals : Refusals Refusal
number_refusals = record { endless = NetworkContinues; ended = NetworkEnds; padded = NetworkNotShortest; outside = NetworkLimits }

abbrev pub number : ℕ → ℕ → List ℕ → Parse ℕ
number low high s = field number_refusals low high s

-- "6 for a link whose end is its start"
unfoldable pub read_link : ℕ → List ℕ → Parse Link
read_link places s =
    and_then (number 0 (places - 1) s) λ start s.
    and_then (number 0 (places - 1) s) λ end s.
    cond (eqb start end) (refused LinkLoop)
    (and_then (number 0 most_capacity s) λ capacity s.
    and_then (number 0 most_transit s) λ transit s.
    accepted (record { start = start; end = end; capacity = capacity; transit = transit }) s)

-- n links, one after another, behind those read before
unfoldable pub read_links : ℕ → ℕ → List ℕ → List Link → Parse (List Link)
read_links zero places s before = accepted before s
read_links (suc n) places s before = and_then (read_link places s) λ l s. read_links n places s (before ++ (l ∷ []))

-- the links of a network whose first numbers are read; "after the last number: 7 if octets remain"
unfoldable pub read_rest : ℕ → ℕ → ℕ → ℕ → List ℕ → Parse Network
read_rest places origin destination links s =
    and_then (read_links links places s []) λ ls s.
    complete NetworkRemains (record { places = places; origin = origin; destination = destination; links = ls }) s

-- "5 for a destination equal to the origin"
unfoldable pub read_network : List ℕ → Parse Network
read_network s =
    and_then (number fewest_places most_places s) λ places s.
    and_then (number 0 (places - 1) s) λ origin s.
    and_then (number 0 (places - 1) s) λ destination s.
    cond (eqb destination origin) (refused SameEnds)
    (and_then (number fewest_links most_links s) λ links s.
    read_rest places origin destination links s)

abbrev pub link_numbers : List Link → List ℕ
link_numbers [] = []
link_numbers (l ∷ ls) = l.start ∷ l.end ∷ l.capacity ∷ l.transit ∷ link_numbers ls

-- a network's numbers in record order
abbrev pub numbers_of : Network → List ℕ
numbers_of N = N.places ∷ N.origin ∷ N.destination ∷ length N.links ∷ link_numbers N.links

-- a network's record
unfoldable pub record_of : Network → List ℕ
record_of N = encode (numbers_of N)

-- link e of a list of numbers in record order
abbrev pub link_of : List ℕ → ℕ → Link
link_of ns e = record {
  start = get_or ns (4 + 4 * e) 0;
  end = get_or ns (5 + 4 * e) 0;
  capacity = get_or ns (6 + 4 * e) 0;
  transit = get_or ns (7 + 4 * e) 0;
}

-- the first n links
abbrev pub links_of : List ℕ → ℕ → List Link
links_of ns zero = []
links_of ns (suc n) = links_of ns n ++ (link_of ns n ∷ [])

-- the network of a list of numbers in record order; numbers past the last link are not looked at
unfoldable pub network_of : List ℕ → Network
network_of ns = record {
  places = get_or ns 0 0;
  origin = get_or ns 1 0;
  destination = get_or ns 2 0;
  links = links_of ns (get_or ns 3 0);
}
