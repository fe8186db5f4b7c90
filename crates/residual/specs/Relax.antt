-- Relaxing the arcs that leave a place, on one side of the residual network: along the links that start there, or against the links
-- that end there.
use Rattle.std.specs.Prelude.{◌≡◌, ◌⊎◌, cond, List, ℕ, zero, suc, ◌+◌, ◌-◌, ◌*◌, ◌≤◌, ◌<◌, length, get_or, ltb, ℤ, pos, neg_ℤ}
use Rattle.limits.specs.Limits.{most_places, most_links, most_transit}
use Rattle.flows.specs.declared.Link.{Link}
use Rattle.flows.specs.Network.{no_link}
use Rattle.flows.specs.Cut.{number, counted}
use Rattle.residual.specs.Residual.{cost_of}
use Rattle.residual.specs.Tree.{far, farthest}
use Rattle.residual.specs.declared.Labels.{Labels}
use Rattle.residual.specs.declared.Direction.{Direction}
use Rattle.residual.specs.declared.Direction.TheVariants.{Along, Against}
use Rattle.residual.specs.declared.Side as lent

-- one side, link by link: the next link at the same place, the link, and what is on it; `place` is where the arcs begin, and all go the
-- same way over their links
pub record Side : Type 0 where
  pub next : List ℕ
  pub links : List Link
  pub flow : List ℕ
  pub potential : List ℕ
  pub place : ℕ
  pub direction : Direction

abbrev pub labels : List ℕ → List ℕ → List ℕ → Labels
labels distance waiting arc = record { distance = distance; waiting = waiting; arc = arc }

abbrev pub side : List ℕ → List Link → List ℕ → List ℕ → ℕ → Direction → Side
side next links flow potential place direction = record {
  next = next;
  links = links;
  flow = flow;
  potential = potential;
  place = place;
  direction = direction;
}

-- what a direction adds to twice a link's number, for the number of the link's arc
abbrev pub parity : Direction → ℕ
parity Along = 0
parity Against = 1

-- the direction that a number names: every number above 0 alike
abbrev pub direction_of : ℕ → Direction
direction_of zero = Along
direction_of (suc n) = Against

-- where a link's arc begins, and where it ends
abbrev pub tail_of : Direction → Link → ℕ
tail_of Along l = l.start
tail_of Against l = l.end

abbrev pub head_of : Direction → Link → ℕ
head_of Along l = l.end
head_of Against l = l.start

-- the side that the code lends, and the number at which its chain begins
abbrev pub side_of : lent.Side → Side
side_of s = side s.chains.now.next s.links.now s.flow.now s.potential.now s.place s.direction

abbrev pub first_of : lent.Side → ℕ
first_of s = get_or s.chains.now.first s.place 0

-- a transit with an arc's direction
abbrev pub signed : Direction → ℕ → ℤ
signed Along transit = pos transit
signed Against transit = neg_ℤ (pos transit)

-- how much more an arc with a direction can carry
abbrev pub room_of : ℕ → ℕ → Direction → ℕ
room_of capacity blocks Along = capacity - blocks
room_of capacity blocks Against = blocks

-- the distance that an arc with room offers to its head
abbrev pub offered : ℕ → ℕ → ℤ → ℕ
offered room distance z = cond (ltb 0 room) (distance + counted z) far

-- what an offer asks for: where the arc has room, its reduced cost is not negative
pub record Offering (room distance tail head transit : ℕ) (direction : Direction) : Type 0 where
  pub distance_most : distance + tail ≤ farthest
  pub transit_most : transit ≤ most_transit
  pub priced : 0 < room → cost_of tail head (signed direction transit) ≡ pos (counted (cost_of tail head (signed direction transit)))

-- a link of a side, and the place that its arc leads to
abbrev pub link_on : Side → ℕ → Link
link_on S e = get_or S.links e no_link

abbrev pub head_on : Side → ℕ → ℕ
head_on S e = head_of S.direction (link_on S e)

-- the reduced cost of a link's arc
abbrev pub price : Side → ℕ → ℤ
price S e = cost_of (number S.potential S.place) (number S.potential (head_on S e)) (signed S.direction (link_on S e).transit)

-- how much more it can carry
abbrev pub room_at : Side → ℕ → ℕ
room_at S e = room_of (link_on S e).capacity (get_or S.flow e 0) S.direction

abbrev pub offer : Side → ℕ → ℕ → ℕ
offer S distance e = offered (room_at S e) distance (price S e)

-- e is a link of the chain that begins one before the number `at`
pub data OnChain (next : List ℕ) : ℕ → ℕ → Type 0 where
  here : (e : ℕ) → OnChain next (suc e) e
  later : (e k : ℕ) → OnChain next (get_or next e 0) k → OnChain next (suc e) k

-- a link whose arc can be relaxed: its number, the next of its chain and its head are in range, and its arc's price is not negative
pub record Relaxable (S : Side) (e : ℕ) : Type 0 where
  pub known : e < most_links
  pub falls : get_or S.next e 0 ≤ e
  pub leads : head_on S e < most_places
  pub transit_most : (link_on S e).transit ≤ most_transit
  pub priced : 0 < room_at S e → price S e ≡ pos (counted (price S e))

-- what relaxing a side asks for
pub record Relaxing (S : Side) (first : ℕ) (L : Labels) : Type 0 where
  pub distances : length L.distance ≡ most_places
  pub waitings : length L.waiting ≡ most_places
  pub arcs : length L.arc ≡ most_places
  pub place_in : S.place < most_places
  pub each : (e : ℕ) → OnChain S.next first e → Relaxable S e
  pub distance_most : (v : ℕ) → get_or L.distance v 0 ≤ far
  pub place_most : get_or L.distance S.place 0 + number S.potential S.place ≤ farthest

-- the labels of a place are as they were
pub record Kept (L M : Labels) (v : ℕ) : Type 0 where
  pub distance : get_or M.distance v 0 ≡ get_or L.distance v 0
  pub waiting : get_or M.waiting v 0 ≡ get_or L.waiting v 0
  pub arc : get_or M.arc v 0 ≡ get_or L.arc v 0

-- they are lower, by a link's arc that has room
pub record Lowered (S : Side) (first : ℕ) (L M : Labels) (v : ℕ) : Type 0 where
  pub link : ℕ
  pub listed : OnChain S.next first link
  pub leads : head_on S link ≡ v
  pub roomy : 0 < room_at S link
  pub distance : get_or M.distance v 0 ≡ get_or L.distance S.place 0 + counted (price S link)
  pub waiting : get_or M.waiting v 0 ≡ get_or M.distance v 0
  pub arc : get_or M.arc v 0 ≡ 2 * link + parity S.direction
  pub lower : get_or M.distance v 0 < get_or L.distance v 0

-- what relaxing a side leaves: no arc of it offers less than its head has
pub record Relaxed (S : Side) (first : ℕ) (L M : Labels) : Type 0 where
  pub distances : length M.distance ≡ length L.distance
  pub waitings : length M.waiting ≡ length L.waiting
  pub arcs : length M.arc ≡ length L.arc
  pub label : (v : ℕ) → Kept L M v ⊎ Lowered S first L M v
  pub done : (e : ℕ) → OnChain S.next first e
      → get_or M.distance (head_on S e) 0 ≤ offer S (get_or L.distance S.place 0) e

-- what relaxing two sides leaves, one after the other
pub record BothRelaxed (S : Side) (first : ℕ) (S' : Side) (first' : ℕ) (L M : Labels) : Type 0 where
  pub between : Labels
  pub once : Relaxed S first L between
  pub twice : Relaxed S' first' between M
