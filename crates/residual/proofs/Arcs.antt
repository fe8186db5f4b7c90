-- The arcs of a link, along it and against it, each law once for an arc of any number: by the parity of its number. Assumes nothing.
use mathlib.Core.Path.{◌≡◌, sym, ◌∙◌}
use mathlib.Core.Logic.{◌≢◌, ◌⊎◌, inl, inr, ⊎_elim}
use mathlib.Core.Bool.{true, false}
use mathlib.Core.List.{List}
use Prim.Native.Nat.{ℕ, ◌+◌, ◌-◌, ◌*◌, ◌%◌, ◌<◌}
use native.Mathlib.Omega.{arith}
use native.Mathlib.Decide.{ℕ_discrete}
use lib.IntN.{pos, neg_ℤ}
use borrow.Author.Tests.{eq-eqb, ne_eqb, eqb-true, eqb-false}
use Rattle.flows.specs.Network.{Network, link, count, Connects}
use Rattle.statics.specs.Static.{on_link}
use Rattle.residual.specs.Residual.{link_of, along, tail, head, room, arc_transit}

-- ---- numbers of arcs

-- arc a goes along link e
pub record Along (a e : ℕ) : Type 0 where
  pub over : link_of a ≡ e
  pub direction : along a ≡ true

-- arc a goes against link e
pub record Against (a e : ℕ) : Type 0 where
  pub over : link_of a ≡ e
  pub direction : along a ≡ false

pub goes_along : (a e : ℕ) → a ≡ 2 * e → Along a e
goes_along a e h = record { over = omega arith; direction = eq-eqb (a % 2) 0 (omega arith) }

pub goes_against : (a e : ℕ) → a ≡ 2 * e + 1 → Against a e
goes_against a e h = record { over = omega arith; direction = ne_eqb (a % 2) 0 (λ i. omega arith) }

pub number_along : {a e : ℕ} → Along a e → a ≡ 2 * e
number_along {a} d = omega (arith, d.over, eqb-true (a % 2) 0 d.direction)

pub number_against : {a e : ℕ} → Against a e → a ≡ 2 * e + 1
number_against {a} d = let q : a % 2 ≢ 0 = eqb-false (a % 2) 0 d.direction in omega (arith, d.over)

-- every arc is one of its link's two
pub arc_cases : (a : ℕ) → Along a (link_of a) ⊎ Against a (link_of a)
arc_cases a =
    elim (ℕ_discrete (a % 2) 0) [
      | yes h ↦ inl (goes_along a (link_of a) (omega arith))
      | no h ↦ inr (goes_against a (link_of a) (omega arith))
    ]

-- ---- the two arcs of a link, in the link's terms

module _ (N : Network) {a e : ℕ} (d : Along a e) where
  pub tail_along : tail N a ≡ (link N e).start
  unfolding tail
  tail_along = rw (d.direction, d.over)

  pub head_along : head N a ≡ (link N e).end
  unfolding head
  head_along = rw (d.direction, d.over)

  pub transit_along : arc_transit N a ≡ pos (link N e).transit
  unfolding arc_transit
  transit_along = rw (d.direction, d.over)

  pub room_along : (x : List ℕ) → room N x a ≡ (link N e).capacity - on_link x e
  unfolding room
  room_along x = rw (d.direction, d.over)

module _ (N : Network) {a e : ℕ} (d : Against a e) where
  pub tail_against : tail N a ≡ (link N e).end
  unfolding tail
  tail_against = rw (d.direction, d.over)

  pub head_against : head N a ≡ (link N e).start
  unfolding head
  head_against = rw (d.direction, d.over)

  pub transit_against : arc_transit N a ≡ neg_ℤ (pos (link N e).transit)
  unfolding arc_transit
  transit_against = rw (d.direction, d.over)

  pub room_against : (x : List ℕ) → room N x a ≡ on_link x e
  unfolding room
  room_against x = rw (d.direction, d.over)

-- two arcs of one link are one arc, or each begins where the other ends
pub same_link : (N : Network) (a b : ℕ) → link_of a ≡ link_of b → (a ≡ b) ⊎ ((tail N a ≡ head N b) × (tail N b ≡ head N a))
same_link N a b e = go (arc_cases a) (rw (← e) at (arc_cases b))
  where
    go : {l : ℕ} → Along a l ⊎ Against a l → Along b l ⊎ Against b l → (a ≡ b) ⊎ ((tail N a ≡ head N b) × (tail N b ≡ head N a))
    go (inl p) (inl q) = inl (omega (arith, number_along p, number_along q))
    go (inr p) (inr q) = inl (omega (arith, number_against p, number_against q))
    go (inl p) (inr q) = inr (tail_along N p ∙ sym (head_against N q), tail_against N q ∙ sym (head_along N p))
    go (inr p) (inl q) = inr (tail_against N p ∙ sym (head_along N q), tail_along N q ∙ sym (head_against N p))

-- ---- arcs lead between places

module _ (N : Network) (c : Connects N) (a : ℕ) (k : link_of a < count N) where
  pub tail_in : tail N a < N.places
  tail_in =
      ⊎_elim (λ d. omega (arith, tail_along N d, c.start_in (link_of a) k)) (λ d. omega (arith, tail_against N d, c.end_in (link_of a) k))
      (arc_cases a)

  pub head_in : head N a < N.places
  head_in =
      ⊎_elim (λ d. omega (arith, head_along N d, c.end_in (link_of a) k)) (λ d. omega (arith, head_against N d, c.start_in (link_of a) k))
      (arc_cases a)
