-- Putting octets one after another to the front of a lent part: what is written so far stands before the part as it was.
-- Assumes nothing.
use mathlib.Core.Path.{◌≡◌, refl, ap, ◌∙◌}
use mathlib.Core.List.{List, [], ◌∷◌, ◌++◌}
use Prim.Native.Nat.{ℕ, ◌+◌, ◌-◌, ◌≤◌, ◌<◌}
use native.Mathlib.Omega.{arith}
use lib.ListN.{length, set, take, drop, length-append, length-take, length-drop}
use Rattle.numbers.proofs.Written.{length_over, over_over, over_set, over_one}
use Rattle.texts.specs.Put.{Put}

-- a part keeps its length
pub put_length : (text before after : List ℕ) (r : ℕ) → Put text before after r → length text ≤ length before → length after ≡ length before
put_length text before after r p h = ap length p.written ∙ length_over text before h

-- one, two or three octets
pub put_one : (x : ℕ) (b : List ℕ) → 0 < length b → Put (x ∷ []) b (set b 0 x) 1
put_one x b h = record { size = refl; written = over_one x b h }

pub put_two : (x y : ℕ) (b : List ℕ) → 1 < length b → Put (x ∷ y ∷ []) b (set (set b 0 x) 1 y) 2
put_two x y b h =
    record { size = refl; written = over_set (x ∷ []) b (set b 0 x) 1 y (over_one x b (omega arith)) refl h }

pub put_three : (x y z : ℕ) (b : List ℕ) → 2 < length b → Put (x ∷ y ∷ z ∷ []) b (set (set (set b 0 x) 1 y) 2 z) 3
put_three x y z b h =
    record { size = refl; written = over_set (x ∷ y ∷ []) b (set (set b 0 x) 1 y) 2 z (put_two x y b (omega arith)).written refl h }

----- One text after another

-- a text put to the part that starts after the one before it
pub put_then : (x y b₀ b ys : List ℕ) (at r : ℕ) → Put x b₀ b at → Put y (take (length b - at) (drop at b)) ys r
    → Put (x ++ y) b₀ (take at b ++ (ys ++ drop (length b - at) (drop at b))) (at + r)
put_then x y b₀ b ys at r p q =
    record {
      size = omega (arith, p.size, q.size, length-append x y);
      written = over_over x y b₀ b ys at p.written p.size q.written;
    }

-- the same text in other words
pub put_same : {x y b₀ b : List ℕ} {r : ℕ} → x ≡ y → Put x b₀ b r → Put y b₀ b r
put_same e p = rw (← e) p

pub fits_same : {n : ℕ} (x y : List ℕ) → x ≡ y → length x ≤ n → length y ≤ n
fits_same x y e h = omega (arith, ap length e)

-- there is room for the first of two
pub put_first : (x y : List ℕ) (n : ℕ) → length (x ++ y) ≤ n → length x ≤ n
put_first x y n h = omega (arith, length-append x y)

-- that part starts within the buffer, and there is room in it
module _ (x y b₀ b : List ℕ) (at : ℕ) (p : Put x b₀ b at) (h : length (x ++ y) ≤ length b₀) where
  pub put_keeps : length b ≡ length b₀
  put_keeps = put_length x b₀ b at p (omega (arith, length-append x y))

  pub put_room : at + length y ≤ length b
  put_room = omega (arith, put_keeps, p.size, length-append x y)

  pub put_start : at ≤ length b
  put_start = omega (arith, put_room)

  pub put_part : length y ≤ length (take (length b - at) (drop at b))
  put_part = simp (length-take, length-drop) (omega (arith, put_room))
