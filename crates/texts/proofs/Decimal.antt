-- The two ways to write a number in decimal, and how many digits it has: by recursion over the count of digits. Assumes nothing.
use mathlib.Core.Path.{◌≡◌, ap, ◌∙◌}
use mathlib.Core.List.{List, [], ◌∷◌, ◌++◌}
use Prim.Native.Nat.{ℕ, zero, suc, ◌+◌, ◌/◌, ◌%◌, ◌^◌, ◌≤◌, ◌<◌}
use native.Mathlib.Omega.{arith}
use native.Mathlib.Decide.{dec_lt}
use lib.ListN.{length, length-append}
use borrow.Author.Tests.{lt-ltb, le-ltb}
use Rattle.texts.specs.Decimal.{digit, digits, decimal}

-- any two counts that are enough give the same digits
digits_enough : (k m n : ℕ) → n < k → n < m → digits k n ≡ digits m n
unfolding digits
digits_enough zero m n h g = absurd (omega arith)
digits_enough (suc k) zero n h g = absurd (omega arith)
digits_enough (suc k) (suc m) n h g = elim (dec_lt n 10) [
  | yes l ↦ rw (lt-ltb n 10 l)
  | no q ↦ rw (le-ltb n 10 (omega arith)) (ap (λ (ds : List ℕ). ds ++ (digit (n % 10) ∷ [])) (digits_enough k m (n / 10) (omega arith) (omega arith)))
]

pub decimal_last : (n : ℕ) → n < 10 → decimal n ≡ digit n ∷ []
unfolding decimal digits
decimal_last n h = rw (lt-ltb n 10 h)

pub decimal_more : (n : ℕ) → 10 ≤ n → decimal n ≡ decimal (n / 10) ++ (digit (n % 10) ∷ [])
unfolding decimal digits
decimal_more n h = rw (le-ltb n 10 h) (ap (λ (ds : List ℕ). ds ++ (digit (n % 10) ∷ [])) (digits_enough n (suc (n / 10)) (n / 10) (omega arith) (omega arith)))

pub length_more : (n : ℕ) → 10 ≤ n → length (decimal n) ≡ length (decimal (n / 10)) + 1
length_more n h = ap length (decimal_more n h) ∙ length-append (decimal (n / 10)) (digit (n % 10) ∷ [])

pub length_last : (n : ℕ) → n < 10 → length (decimal n) ≡ 1
length_last n h = ap length (decimal_last n h)

-- a number below 10 ^ (k + 1) has at most k + 1 digits
pub length_decimal : (k n : ℕ) → n < 10 ^ suc k → length (decimal n) ≤ suc k
length_decimal zero n h = omega (arith, length_last n (omega arith))
length_decimal (suc k) n h = elim (dec_lt n 10) [
  | yes l ↦ omega (arith, length_last n l)
  | no q ↦ omega (arith, length_more n (omega arith), length_decimal k (n / 10) (omega arith))
]
