-- The bottleneck of a chain is at most each number that it is the least of, and is one of them, by induction over the chain's links.
-- Assumes nothing.
use mathlib.Core.Path.{◌≡◌, refl, ap}
use mathlib.Core.Logic.{◌⊎◌, inl, inr}
use mathlib.Core.List.{List, [], ◌∷◌}
use Prim.Native.Nat.{ℕ, ◌≤◌, ◌<◌, min}
use native.Mathlib.Nat.{le_refl}
use native.Mathlib.Omega.{arith}
use native.Mathlib.Decide.{dec_le}
use Rattle.statics.specs.Static.{on_link}
use Rattle.statics.specs.Reach.{uses}
use Rattle.statics.proofs.Chains.{uses_first, uses_later, uses_split}
use Rattle.turns.specs.Turn.{least_on}

module _ (x : List ℕ) where
  pub least_most : (m : ℕ) (es : List ℕ) → least_on x m es ≤ m
  least_most m [] = le_refl m
  least_most m (l ∷ es) = omega (arith, least_most (min m (on_link x l)) es)

  pub least_link : (m : ℕ) (es : List ℕ) (e : ℕ) → 0 < uses es e → least_on x m es ≤ on_link x e
  least_link m [] e p = absurd (omega arith)
  least_link m (l ∷ es) e p =
      elim (uses_split l es e p) [
        | inl h ↦ omega (arith, least_most (min m (on_link x l)) es, ap (on_link x) h)
        | inr h ↦ least_link (min m (on_link x l)) es e h
      ]

  pub least_pos : (m : ℕ) (es : List ℕ) → 0 < m → ((e : ℕ) → 0 < uses es e → 0 < on_link x e) → 0 < least_on x m es
  least_pos m [] p h = p
  least_pos m (l ∷ es) p h =
      least_pos (min m (on_link x l)) es (omega (arith, h l (uses_first l es))) (λ e q. h e (uses_later l es e q))

  -- it is m, or some link has just so much
  pub least_met : (m : ℕ) (es : List ℕ)
      → (least_on x m es ≡ m) ⊎ ((e : ℕ) × (0 < uses es e) × (on_link x e ≡ least_on x m es))
  least_met m [] = inl refl
  least_met m (l ∷ es) =
      elim (least_met (min m (on_link x l)) es) [
        | inl h ↦ elim (dec_le m (on_link x l)) [
          | yes q ↦ inl (omega arith)
          | no q ↦ inr (l, uses_first l es, omega arith)
        ]
        | inr h ↦ inr (h.0, uses_later l es h.0 h.1, h.2)
      ]
