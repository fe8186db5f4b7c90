-- Finite sums over the numbers below a bound, and a test over them.
use Rattle.std.specs.Prelude.{Bool, false, cond, ◌||◌, ℕ, zero, suc, ◌+◌, eqb}

-- g 0 + .. + g (n - 1)
abbrev pub sum : (ℕ → ℕ) → ℕ → ℕ
sum g zero = 0
sum g (suc n) = sum g n + g n

-- x where a is v, else 0
unfoldable pub only : ℕ → ℕ → ℕ → ℕ
only a v x = cond (eqb a v) x 0

-- the sum of x e over those e below n that stand at v
unfoldable pub gather : (ℕ → ℕ) → ℕ → (ℕ → ℕ) → ℕ → ℕ
gather at n x v = sum (λ e. only (at e) v (x e)) n

-- a test passes at some number below n
abbrev pub some : (ℕ → Bool) → ℕ → Bool
some t zero = false
some t (suc n) = some t n || t n
