-- Packed decimal: one test of a whole table, from which its rule follows at each entry, and the three digits read from an entry.
-- Assumes nothing.
use mathlib.Core.Path.{◌≡◌, ap, ◌∙◌}
use mathlib.Core.List.{List, [], ◌∷◌}
use mathlib.Core.Bool.{Bool, true, ◌&&◌}
use Prim.Native.Nat.{ℕ, zero, suc, ◌+◌, ◌*◌, ◌/◌, ◌%◌, ◌<◌}
use native.Mathlib.Omega.{arith}
use lib.Dec.{T, eqb, eqb→eq}
use lib.ListN.{length, get_or}
use mir.Facts.{and_yes}
use Rattle.digits.specs.Packed.{packed_of, Packs}

----- A table

-- the test: a list's numbers are the packed digits of i, i + 1 and so on
abbrev pub packed_from : ℕ → List ℕ → Bool
packed_from i [] = true
packed_from i (x ∷ xs) = eqb x (packed_of i) && packed_from (suc i) xs

packed_from_lem : (xs : List ℕ) (i : ℕ) → T (packed_from i xs) → (k : ℕ) → k < length xs → get_or xs k 0 ≡ packed_of (i + k)
packed_from_lem [] i t k h = absurd (omega arith)
packed_from_lem (x ∷ xs) i t zero h = eqb→eq x (packed_of i) (and_yes (eqb x (packed_of i)) (packed_from (suc i) xs) t).0 ∙ ap packed_of (omega arith)
packed_from_lem (x ∷ xs) i t (suc k) h = packed_from_lem xs (suc i) (and_yes (eqb x (packed_of i)) (packed_from (suc i) xs) t).1 k (omega arith) ∙ ap packed_of (omega arith)

-- a table of 1,000 entries that passes the test has the rule at each of them
pub packs : {t : List ℕ} → T (packed_from 0 t) → length t ≡ 1000 → Packs t
packs {t} passes size = record { entry = λ i h. packed_from_lem t 0 passes i (omega arith) ∙ ap packed_of (omega arith) }

----- The digits of an entry

hundreds_of : (a b c : ℕ) → a < 16 → b < 16 → c < 16 → (a * 256 + b * 16 + c) / 256 % 16 ≡ a
hundreds_of a b c f h g =
    let q : (a * 256 + b * 16 + c) / 256 ≡ a = omega arith in
    omega (arith, q)

tens_of : (a b c : ℕ) → b < 16 → c < 16 → (a * 256 + b * 16 + c) / 16 % 16 ≡ b
tens_of a b c h g =
    let q : (a * 256 + b * 16 + c) / 16 ≡ a * 16 + b = omega arith in
    omega (arith, q)

packed_hundreds : (n : ℕ) → n < 1000 → packed_of n / 256 % 16 ≡ n / 100
unfolding packed_of
packed_hundreds n h = hundreds_of (n / 100) (n / 10 % 10) (n % 10) (omega arith) (omega arith) (omega arith)

packed_tens : (n : ℕ) → packed_of n / 16 % 16 ≡ n / 10 % 10
unfolding packed_of
packed_tens n = tens_of (n / 100) (n / 10 % 10) (n % 10) (omega arith) (omega arith)

packed_ones : (n : ℕ) → packed_of n % 16 ≡ n % 10
unfolding packed_of
packed_ones n = omega arith

-- the digits of what an entry holds
module _ (entry n : ℕ) (is : entry ≡ packed_of n) (h : n < 1000) where
  pub entry_hundreds : entry / 256 % 16 ≡ n / 100
  entry_hundreds = ap (λ (x : ℕ). x / 256 % 16) is ∙ packed_hundreds n h

  pub entry_tens : entry / 16 % 16 ≡ n / 10 % 10
  entry_tens = ap (λ (x : ℕ). x / 16 % 16) is ∙ packed_tens n

  pub entry_ones : entry % 16 ≡ n % 10
  entry_ones = ap (λ (x : ℕ). x % 16) is ∙ packed_ones n
