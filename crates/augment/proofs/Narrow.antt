-- The bottleneck of the augmenting path: the least room of the arcs passed and that of the arcs to come make the whole, turn by turn.
-- Assumes nothing.
use mathlib.Core.Path.{◌≡◌, refl}
use mathlib.Core.Logic.{◌≢◌}
use mathlib.Core.List.{List}
use Prim.Native.Nat.{ℕ, zero, suc, ◌≤◌, ◌<◌, min}
use native.Mathlib.Omega.{arith}
use native.Mathlib.Decide.{ℕ_discrete}
use borrow.Author.Tests.{eq-eqb, ne_eqb}
use Rattle.limits.specs.Limits.{most_capacity}
use Rattle.flows.specs.Network.{Network}
use Rattle.residual.specs.declared.Tree.{Tree}
use Rattle.residual.specs.Residual.{tail, room}
use Rattle.residual.specs.Tree.{rank, arc}
use Rattle.states.specs.declared.State.{State}
use Rattle.states.specs.State.{TightTree}
use Rattle.states.specs.Steps.{least_room, narrowest}

module _ (N : Network) (x : List ℕ) (t : Tree) where
  pub least_none : (v : ℕ) → least_room N x t 0 v ≡ most_capacity
  unfolding least_room
  least_none v = refl

  pub least_origin : (k v : ℕ) → v ≡ N.origin → least_room N x t k v ≡ most_capacity
  unfolding least_room
  least_origin zero v h = refl
  least_origin (suc k) v h = rw (eq-eqb v N.origin h)

  pub least_step : (k v : ℕ) → v ≢ N.origin
      → least_room N x t (suc k) v ≡ min (room N x (arc t v)) (least_room N x t k (tail N (arc t v)))
  unfolding least_room
  least_step k v h = rw (ne_eqb v N.origin h)

  pub least_most : (k v : ℕ) → least_room N x t k v ≤ most_capacity
  least_most zero v = omega (arith, least_none v)
  least_most (suc k) v =
      elim (ℕ_discrete v N.origin) [
        | yes h ↦ omega (arith, least_origin (suc k) v h)
        | no h ↦ omega (arith, least_step k v h, least_most k (tail N (arc t v)))
      ]

pub least_positive : {N : Network} {s : State} {t : Tree} → TightTree N s t → (k v : ℕ) → 0 < rank t v → 0 < least_room N s.flow t k v
least_positive {N} {s} {t} tree zero v i = omega (arith, least_none N s.flow t v)
least_positive {N} {s} {t} tree (suc k) v i =
    elim (ℕ_discrete v N.origin) [
      | yes h ↦ omega (arith, least_origin N s.flow t (suc k) v h)
      | no h ↦
          let a = tree.reached v i h in
          omega (arith, least_step N s.flow t k v h, a.has_room, least_positive tree k (tail N (arc t v)) a.settled)
    ]

pub narrowest_most : (N : Network) (x : List ℕ) (t : Tree) → narrowest N x t ≤ most_capacity
narrowest_most N x t = least_most N x t N.places N.destination

pub narrowest_positive : {N : Network} {s : State} {t : Tree} → TightTree N s t → 0 < narrowest N s.flow t
narrowest_positive {N} tree = least_positive tree N.places N.destination tree.destination

-- the search for the bottleneck stands at v: the least so far and the least of the rest are the least of all
pub record Narrowing (N : Network) (s : State) (t : Tree) (least v : ℕ) : Type 0 where
  pub settled : 0 < rank t v
  pub least_most : least ≤ most_capacity
  pub most : ℕ
  pub ranked : rank t v ≤ most
  pub narrowed : min least (least_room N s.flow t most v) ≡ narrowest N s.flow t

module _ {N : Network} {s : State} {t : Tree} (tree : TightTree N s t) where
  pub narrow_begin : Narrowing N s t most_capacity N.destination
  narrow_begin =
      record {
        settled = tree.destination;
        least_most = omega arith;
        most = N.places;
        ranked = tree.rank_most N.destination;
        narrowed = omega (arith, least_most N s.flow t N.places N.destination);
      }

  pub narrow_step : {least v : ℕ} → Narrowing N s t least v → v ≢ N.origin
      → Narrowing N s t (min least (room N s.flow (arc t v))) (tail N (arc t v))
  narrow_step {least} {v} g h = go g.most g.ranked g.narrowed
    where
      go : (k : ℕ) → rank t v ≤ k → min least (least_room N s.flow t k v) ≡ narrowest N s.flow t
          → Narrowing N s t (min least (room N s.flow (arc t v))) (tail N (arc t v))
      go zero r l = absurd (omega (arith, g.settled))
      go (suc k) r l =
          let a = tree.reached v g.settled h in
          record {
            settled = a.settled;
            least_most = omega (arith, g.least_most);
            most = k;
            ranked = omega (arith, a.before);
            narrowed = omega (arith, least_step N s.flow t k v h);
          }

  pub narrow_end : {least v : ℕ} → Narrowing N s t least v → v ≡ N.origin → least ≡ narrowest N s.flow t
  narrow_end {least} {v} g h = omega (arith, g.narrowed, g.least_most, least_origin N s.flow t g.most v h)
