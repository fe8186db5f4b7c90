-- The least number of slots t + 1 in which v blocks a slot make at least n, by what division says of its quotient t = (n - 1) / v.
-- Assumes nothing.
use Prim.Native.Nat.{ℕ, ◌+◌, ◌-◌, ◌*◌, ◌/◌, ◌≤◌, ◌<◌}
use native.Mathlib.Nat.{le-div_iff_mul-le, div-lt_iff_lt-mul, div-mul-le_self, lt-div-mul-add, add-mul, one-mul}
use native.Mathlib.Omega.{arith}

module _ {n v : ℕ} (p : 0 < v) (q : 0 < n) where
  pub too_short : (n - 1) / v * v < n
  too_short = omega (arith, div-mul-le_self (n - 1) v)

  pub enough : n ≤ ((n - 1) / v + 1) * v
  enough = omega (arith, lt-div-mul-add {a = n - 1} {b = v} p, add-mul ((n - 1) / v) 1 v, one-mul v)

  pub not_below : (a : ℕ) → a * v < n → a ≤ (n - 1) / v
  not_below a h = (le-div_iff_mul-le {k = v} {x = a} {y = n - 1} p).1 (omega arith)

  pub not_above : (b : ℕ) → n ≤ b * v → (n - 1) / v < b
  not_above b h = (div-lt_iff_lt-mul {k = v} {x = n - 1} {y = b} p).1 (omega arith)
