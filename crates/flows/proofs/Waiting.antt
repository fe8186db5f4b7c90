-- A flow may hold: over two links in a row a block enters the second a slot after it arrives. So "holds nothing" says more than "is a
-- flow", and that nothing is lost by it is no play on words. By computation, slot by slot. Assumes nothing.
use mathlib.Core.Path.{◌≡◌, refl}
use mathlib.Core.Bool.{Bool}
use mathlib.Core.List.{[], ◌∷◌}
use Prim.Native.Nat.{ℕ, zero, suc, ◌+◌, ◌≤◌, ◌<◌, zero-le}
use native.Mathlib.Nat.{le_refl}
use native.Mathlib.Omega.{arith}
use lib.Dec.{leb, leb→le}
use Rattle.flows.specs.Clock.{counting}
use Rattle.flows.specs.Sums.{only, gather}
use Rattle.flows.specs.Network.{Network, link, count}
use Rattle.flows.specs.Flow.{left, arrived, IsFlow}
use Rattle.flows.specs.Holding.{Unheld}
use Rattle.flows.specs.Figures.{link_of}
use Rattle.flows.proofs.Sums.{every, every_at}

-- the links 0 and 1 lead from 0 over 1 to 2
abbrev pub relay : Network
relay = record { places = 3; origin = 0; destination = 2; links = link_of 0 1 1 1 ∷ link_of 1 2 1 1 ∷ [] }

-- a block enters link 0 in slot 0, arrives in slot 1, and enters link 1 in slot 2
abbrev pub waiting : ℕ → ℕ → ℕ
waiting zero zero = 1
waiting zero (suc s) = 0
waiting (suc zero) zero = 0
waiting (suc zero) (suc zero) = 0
waiting (suc zero) (suc (suc zero)) = 1
waiting (suc zero) (suc (suc (suc s))) = 0
waiting (suc (suc e)) s = 0

within : (e s : ℕ) → e < count relay → waiting e s ≤ (link relay e).capacity
unfolding link
within zero zero p = le_refl 1
within zero (suc s) p = zero-le
within (suc zero) zero p = zero-le
within (suc zero) (suc zero) p = zero-le
within (suc zero) (suc (suc zero)) p = le_refl 1
within (suc zero) (suc (suc (suc s))) p = zero-le
within (suc (suc e)) s p = zero-le

inside : (e s : ℕ) → 4 ≤ s + (link relay e).transit → waiting e s ≡ 0
unfolding link
inside zero zero p = absurd (omega arith)
inside zero (suc s) p = refl
inside (suc zero) zero p = refl
inside (suc zero) (suc zero) p = refl
inside (suc zero) (suc (suc zero)) p = absurd (omega arith)
inside (suc zero) (suc (suc (suc s))) p = refl
inside (suc (suc e)) s p = refl

-- at every place but 0, in every slot
conserves : ℕ → ℕ → Bool
conserves v s = leb (left relay waiting (suc v) (suc s)) (arrived relay waiting (suc v) (suc s))

conserved : (v s : ℕ) → suc v < 3 → s < 5 → left relay waiting (suc v) (suc s) ≤ arrived relay waiting (suc v) (suc s)
unfolding conserves link only gather
conserved v s p q = leb→le _ _ (every_at (conserves v) 5 (every_at (λ u. every (conserves u) 5) 2 tt v (omega arith)) s q)

pub waiting_flow : IsFlow relay 5 waiting
unfolding counting
waiting_flow =
    record { within = within; inside = λ e s p q. inside e s (omega arith); conserved = at_place }
  where
    at_place : (v s : ℕ) → v < 3 → (v ≡ 0 → ⊥) → s < 5 → left relay waiting v (suc s) ≤ arrived relay waiting v (suc s)
    at_place zero s p q r = absurd (q refl)
    at_place (suc v) s p q r = conserved v s p r

-- in slot 1 a block arrives at place 1 and none leaves
pub waiting_held : Unheld relay 5 waiting → ⊥
unfolding link only gather
waiting_held u = omega (arith, u.passes 1 1 (omega arith) (λ e. omega arith) (λ e. omega arith) (omega arith))
