-- What the tests of a proposed state show beside its links, part by part: its potentials, and what leaves each place and arrives at it.
use Rattle.std.specs.Prelude.{◌≡◌, List, ℕ, ◌+◌, ◌*◌, ◌≤◌, ◌<◌, length, get_or}
use Rattle.limits.specs.Limits.{most_places, most_links, most_capacity, most_cut_number}
use Rattle.flows.specs.declared.Link.{Link}
use Rattle.flows.specs.Sums.{only, gather}
use Rattle.flows.specs.Network.{no_link}
use Rattle.flows.specs.Cut.{number}

-- no more than all links carry when they are full
abbrev pub most_value : ℕ
most_value = most_capacity * most_links

-- potentials from 0 at the origin to the highest at the destination, which is no longer than the longest horizon
pub record Rises (origin destination : ℕ) (π : List ℕ) : Type 0 where
  pub at_origin : number π origin ≡ 0
  pub at_most : (v : ℕ) → number π v ≤ number π destination
  pub limit : number π destination ≤ most_cut_number

-- what adding up the blocks of links by one of their ends asks for
pub record Gatherable (end : Link → ℕ) (links : List Link) (blocks : List ℕ) : Type 0 where
  pub few : length links ≤ most_links
  pub ends_in : (e : ℕ) → e < length links → end (get_or links e no_link) < most_places
  pub blocks_most : (e : ℕ) → e < length links → get_or blocks e 0 ≤ most_capacity

-- the sum at each place, and 0 past them
pub record Gathered (end : Link → ℕ) (links : List Link) (blocks sums : List ℕ) : Type 0 where
  pub size : length sums ≡ most_places
  pub is : (u : ℕ) → get_or sums u 0 ≡ gather (λ e. end (get_or links e no_link)) (length links) (λ e. get_or blocks e 0) u

-- at each place what leaves, with the value at the destination, is what arrives, with the value at the origin
abbrev pub Even : List ℕ → List ℕ → ℕ → ℕ → ℕ → Type 0
Even out into origin destination value =
    (u : ℕ) → u < most_places → get_or out u 0 + only destination u value ≡ get_or into u 0 + only origin u value
