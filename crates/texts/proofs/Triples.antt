-- A number's digits in triples, and a triple's digits from the table: three steps of one digit make one step of three.
-- Assumes nothing.
use mathlib.Core.Path.{◌≡◌, refl, ap, ◌∙◌}
use mathlib.Core.List.{List, [], ◌∷◌, ◌++◌, append_assoc}
use mathlib.Core.Bool.{Bool, true, false, true≢false}
use mathlib.Core.Logic.{◌⊎◌, ⊎_elim}
use Prim.Native.Nat.{ℕ, ◌+◌, ◌/◌, ◌%◌, ◌≤◌, ◌<◌}
use native.Mathlib.Omega.{arith}
use lib.ListN.{length, length-append}
use Rattle.digits.specs.Packed.{packed_of}
use Rattle.digits.proofs.Packing.{entry_hundreds, entry_tens, entry_ones}
use Rattle.texts.specs.Decimal.{digit, decimal}
use Rattle.texts.specs.Triples.{three, triple}
use Rattle.texts.proofs.Decimal.{decimal_last, decimal_more}

----- A number's digits

-- the digits before the last two, and those two
decimal_two : (n : ℕ) → 100 ≤ n → decimal n ≡ decimal (n / 100) ++ (digit (n / 10 % 10) ∷ digit (n % 10) ∷ [])
decimal_two n h =
    let q : n / 10 / 10 ≡ n / 100 = omega arith in
    decimal_more n (omega arith)
    ∙ ap (λ (ds : List ℕ). ds ++ (digit (n % 10) ∷ [])) (decimal_more (n / 10) (omega arith) ∙ ap (λ (k : ℕ). decimal k ++ (digit (n / 10 % 10) ∷ [])) q)
    ∙ append_assoc (decimal (n / 100)) (digit (n / 10 % 10) ∷ []) (digit (n % 10) ∷ [])

-- the triples before the last, and all three digits of the last
pub decimal_triples : (n : ℕ) → 1000 ≤ n → decimal n ≡ decimal (n / 1000) ++ three (n % 1000)
decimal_triples n h =
    let q : n / 100 / 10 ≡ n / 1000 = omega arith in
    let a : n / 100 % 10 ≡ n % 1000 / 100 = omega arith in
    let b : n / 10 % 10 ≡ n % 1000 / 10 % 10 = omega arith in
    let c : n % 10 ≡ n % 1000 % 10 = omega arith in
    decimal_two n (omega arith)
    ∙ ap (λ (ds : List ℕ). ds ++ (digit (n / 10 % 10) ∷ digit (n % 10) ∷ [])) (decimal_more (n / 100) (omega arith) ∙ ap (λ (k : ℕ). decimal k ++ (digit (n / 100 % 10) ∷ [])) q)
    ∙ append_assoc (decimal (n / 1000)) (digit (n / 100 % 10) ∷ []) (digit (n / 10 % 10) ∷ digit (n % 10) ∷ [])
    ∙ rw (a, b, c) refl

pub length_triples : (n : ℕ) → 1000 ≤ n → length (decimal n) ≡ length (decimal (n / 1000)) + 3
length_triples n h = ap length (decimal_triples n h) ∙ length-append (decimal (n / 1000)) (three (n % 1000))

-- a number of three digits
decimal_full : (n : ℕ) → 100 ≤ n → n < 1000 → decimal n ≡ three n
decimal_full n h g =
    decimal_two n h ∙ ap (λ (ds : List ℕ). ds ++ (digit (n / 10 % 10) ∷ digit (n % 10) ∷ [])) (decimal_last (n / 100) (omega arith))

----- A triple's digits, from what the table holds for it

module _ (entry n : ℕ) (is : entry ≡ packed_of n) where
  three_entry : n < 1000 → three n ≡ digit (entry / 256 % 16) ∷ digit (entry / 16 % 16) ∷ digit (entry % 16) ∷ []
  three_entry h = rw (entry_hundreds entry n is h, entry_tens entry n is h, entry_ones entry n is h) refl

  pub triple_one : (first : Bool) → first ≡ true → n < 10 → triple first n ≡ digit (entry % 16) ∷ []
  triple_one first e h = rw (e, decimal_last n h) (ap (λ (d : ℕ). digit d ∷ []) (omega (arith, entry_ones entry n is (omega arith))))

  pub triple_two : (first : Bool) → first ≡ true → 10 ≤ n → n < 100 → triple first n ≡ digit (entry / 16 % 16) ∷ digit (entry % 16) ∷ []
  triple_two first e h g =
      let a : n / 10 ≡ entry / 16 % 16 = omega (arith, entry_tens entry n is (omega arith)) in
      let b : n % 10 ≡ entry % 16 = omega (arith, entry_ones entry n is (omega arith)) in
      rw (e, decimal_more n h, decimal_last (n / 10) (omega arith), ← a, ← b) refl

  pub triple_three : (first : Bool) → (first ≡ false) ⊎ (100 ≤ n) → n < 1000
      → triple first n ≡ digit (entry / 256 % 16) ∷ digit (entry / 16 % 16) ∷ digit (entry % 16) ∷ []
  triple_three false way h = three_entry h
  triple_three true way h = ⊎_elim (λ e. absurd (true≢false e)) (λ l. decimal_full n l h ∙ three_entry h) way
