-- Reduced costs in whole numbers from 0 on: an arc's reduced cost is a difference of two of them, which slackness keeps from being
-- negative where the arc has room. Assumes nothing.
use mathlib.Core.Path.{◌≡◌, sym, ap, ◌∙◌}
use mathlib.Core.Logic.{⊎_elim}
use mathlib.Core.List.{List}
use Prim.Native.Nat.{ℕ, zero, suc, ◌+◌, ◌-◌, ◌≤◌, ◌<◌}
use native.Mathlib.Omega.{arith}
use lib.IntN.{ℤ, pos, neg_ℤ, ◌+ℤ◌, ◌-ℤ◌, +ℤ_assoc, +ℤ_comm, neg_ℤ-+ℤ}
use borrow.Author.Tests.{le-ltb}
use Rattle.flows.specs.Network.{Network, link, count}
use Rattle.flows.specs.Cut.{number}
use Rattle.flows.proofs.Cut.{counted_difference}
use Rattle.statics.specs.Static.{Slackness}
use Rattle.residual.specs.Residual.{link_of, tail, head, room, cost_of, reduced_cost, arc_cost}
use Rattle.residual.proofs.Arcs.{Along, tail_along, head_along, room_along, transit_along, arc_cases}
use Rattle.residual.proofs.Arcs.{Against, tail_against, head_against, room_against, transit_against}

-- ---- differences

pub difference_pos : (a b : ℕ) → b ≤ a → pos a -ℤ pos b ≡ pos (a - b)
difference_pos a zero h = ap pos (omega arith)
difference_pos a (suc b) h = rw (le-ltb a (suc b) h)

-- ---- the two arcs of a link

cost_of_along : (s e t : ℕ) → cost_of s e (pos t) ≡ pos (s + t) -ℤ pos e
cost_of_along s e t =
    sym (+ℤ_assoc (pos t) (pos s) (neg_ℤ (pos e))) ∙ ap (λ (n : ℕ). pos n -ℤ pos e) (omega arith)

cost_of_against : (s e t : ℕ) → cost_of e s (neg_ℤ (pos t)) ≡ pos e -ℤ pos (s + t)
cost_of_against s e t =
    +ℤ_comm (neg_ℤ (pos t)) (pos e -ℤ pos s) ∙ +ℤ_assoc (pos e) (neg_ℤ (pos s)) (neg_ℤ (pos t))
    ∙ ap (λ (k : ℤ). pos e +ℤ k) (sym (neg_ℤ-+ℤ (pos s) (pos t)))

-- ---- the arcs of a network

module _ (N : Network) (π : List ℕ) {a e : ℕ} (d : Along a e) where
  reduced_along : reduced_cost N π a ≡ pos (number π (link N e).start + (link N e).transit) -ℤ pos (number π (link N e).end)
  unfolding reduced_cost
  reduced_along =
      rw (tail_along N d, head_along N d, transit_along N d)
      (cost_of_along (number π (link N e).start) (number π (link N e).end) (link N e).transit)

  pub cost_along : arc_cost N π a ≡ (number π (link N e).start + (link N e).transit) - number π (link N e).end
  unfolding arc_cost
  cost_along = rw reduced_along (counted_difference (number π (link N e).start + (link N e).transit) (number π (link N e).end))

  module _ (x : List ℕ) (s : Slackness N x π) (k : e < count N) (h : 0 < room N x a) where
    pub exact_along : number π (link N e).end + arc_cost N π a ≡ number π (link N e).start + (link N e).transit
    exact_along = omega (arith, cost_along, s.room e k (omega (arith, room_along N d x)))

module _ (N : Network) (π : List ℕ) {a e : ℕ} (d : Against a e) where
  reduced_against : reduced_cost N π a ≡ pos (number π (link N e).end) -ℤ pos (number π (link N e).start + (link N e).transit)
  unfolding reduced_cost
  reduced_against =
      rw (tail_against N d, head_against N d, transit_against N d)
      (cost_of_against (number π (link N e).start) (number π (link N e).end) (link N e).transit)

  pub cost_against : arc_cost N π a ≡ number π (link N e).end - (number π (link N e).start + (link N e).transit)
  unfolding arc_cost
  cost_against = rw reduced_against (counted_difference (number π (link N e).end) (number π (link N e).start + (link N e).transit))

  module _ (x : List ℕ) (s : Slackness N x π) (k : e < count N) (h : 0 < room N x a) where
    pub exact_against : number π (link N e).start + (link N e).transit + arc_cost N π a ≡ number π (link N e).end
    exact_against = omega (arith, cost_against, s.used e k (omega (arith, room_against N d x)))

-- ---- an arc with room, under slackness

module _ (N : Network) (x π : List ℕ) (a : ℕ) (s : Slackness N x π) (k : link_of a < count N) (h : 0 < room N x a) where
  abbrev from : ℕ
  from = number π (link N (link_of a)).start + (link N (link_of a)).transit

  abbrev to : ℕ
  to = number π (link N (link_of a)).end

  -- has a reduced cost of at least 0
  pub reduced_pos : reduced_cost N π a ≡ pos (arc_cost N π a)
  reduced_pos =
      ⊎_elim
      (λ (d : Along a (link_of a)). rw (reduced_along N π d, cost_along N π d) (difference_pos from to (omega (arith, exact_along N π d x s k h))))
      (λ (d : Against a (link_of a)). rw (reduced_against N π d, cost_against N π d) (difference_pos to from (omega (arith, exact_against N π d x s k h))))
      (arc_cases a)

  -- and along it potential and reduced cost together grow by no more than the transit
  pub grows : number π (head N a) + arc_cost N π a ≤ number π (tail N a) + (link N (link_of a)).transit
  grows =
      ⊎_elim
      (λ (d : Along a (link_of a)). rw (head_along N d, tail_along N d) (omega (arith, exact_along N π d x s k h)))
      (λ (d : Against a (link_of a)). rw (head_against N d, tail_against N d) (omega (arith, exact_against N π d x s k h)))
      (arc_cases a)
