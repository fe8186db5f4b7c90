-- Chains of numbers that fall: how far a sum along one looks, and what it does not see. By recursion over the steps. Assumes nothing.
use mathlib.Core.Path.{◌≡◌, refl, ap, ap₂}
use mathlib.Core.List.{List}
use Prim.Native.Nat.{ℕ, zero, suc, ◌+◌, ◌≤◌, ◌<◌}
use native.Mathlib.Nat.{le_refl}
use native.Mathlib.Numerals.{add-one}
use native.Mathlib.Omega.{arith}
use lib.ListN.{get_or, set}
use lib.Seq.{get_or-set_other}
use Rattle.row_uses.specs.Uses.{along, chain}

module _ (prev : List ℕ) (falls : (k : ℕ) → get_or prev k 0 ≤ k) where
  -- as many steps as the first number are enough
  along_enough : (g : ℕ → ℕ) (f h k : ℕ) → k ≤ f → k ≤ h → along prev g f k ≡ along prev g h k
  unfolding along
  along_enough g zero zero k p q = refl
  along_enough g zero (suc h) zero p q = refl
  along_enough g zero (suc h) (suc m) p q = absurd (omega arith)
  along_enough g (suc f) zero zero p q = refl
  along_enough g (suc f) zero (suc m) p q = absurd (omega arith)
  along_enough g (suc f) (suc h) zero p q = refl
  along_enough g (suc f) (suc h) (suc m) p q =
      ap (λ (x : ℕ). g m + x) (along_enough g f h (get_or prev m 0) (omega (arith, falls m)) (omega (arith, falls m)))

  pub chain_none : (g : ℕ → ℕ) → chain prev g 0 ≡ 0
  unfolding along
  chain_none g = refl

  -- the first number apart
  pub chain_first : (g : ℕ → ℕ) (m : ℕ) → chain prev g (m + 1) ≡ g m + chain prev g (get_or prev m 0)
  unfolding along
  chain_first g m =
      rw add-one (ap (λ (x : ℕ). g m + x) (along_enough g m (get_or prev m 0) (get_or prev m 0) (falls m) (le_refl _)))

  -- it sees only what lies below it
  along_eq : (g h : ℕ → ℕ) (f k : ℕ) → ((m : ℕ) → m < k → g m ≡ h m) → along prev g f k ≡ along prev h f k
  unfolding along
  along_eq g h zero k p = refl
  along_eq g h (suc f) zero p = refl
  along_eq g h (suc f) (suc m) p =
      ap₂ ◌+◌ (p m (le_refl _)) (along_eq g h f (get_or prev m 0) (λ i q. p i (omega (arith, falls m))))

  pub chain_eq : (g h : ℕ → ℕ) (k : ℕ) → ((m : ℕ) → m < k → g m ≡ h m) → chain prev g k ≡ chain prev h k
  chain_eq g h k p = along_eq g h k k p

  along_set : (g : ℕ → ℕ) (at x f k : ℕ) → k ≤ at → along (set prev at x) g f k ≡ along prev g f k
  unfolding along
  along_set g at x zero k p = refl
  along_set g at x (suc f) zero p = refl
  along_set g at x (suc f) (suc m) p =
      rw (get_or-set_other prev at m x 0 (λ e. omega arith))
      (ap (λ (y : ℕ). g m + y) (along_set g at x f (get_or prev m 0) (omega (arith, falls m))))

  -- also when a number is stored above it
  pub chain_set : (g : ℕ → ℕ) (at x k : ℕ) → k ≤ at → chain (set prev at x) g k ≡ chain prev g k
  chain_set g at x k p = along_set g at x k k p
