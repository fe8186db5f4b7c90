-- The texts of a list's elements, one after another, by the elements' numbers: what a loop has put after its first turns.
-- Assumes nothing.
use mathlib.Core.Path.{◌≡◌, refl, sym, ap, ◌∙◌}
use mathlib.Core.List.{List, [], ◌∷◌, ◌++◌, append_assoc, append-nil}
use Prim.Native.Nat.{ℕ, zero, suc, ◌+◌, ◌-◌, ◌*◌, ◌≤◌, ◌<◌}
use native.Mathlib.Omega.{arith}
use native.Mathlib.Decide.{dec_lt}
use native.Mathlib.Nat.{add-zero}
use native.Mathlib.Numerals.{add-one}
use lib.ListN.{length, get_or, take, drop, length-append}
use Rattle.texts.specs.Lines.{numbered}
use Rattle.texts.specs.Put.{Put, spaced, all_spaced}
use Rattle.texts.proofs.Putting.{put_then, put_same, put_start, put_part}

-- f 0, .., f (n - 1), one after another
abbrev pub in_order : (ℕ → List ℕ) → ℕ → List ℕ
in_order f zero = []
in_order f (suc n) = in_order f n ++ f n

in_order_first : (f : ℕ → List ℕ) (n : ℕ) → in_order f (suc n) ≡ f 0 ++ in_order (λ i. f (suc i)) n
in_order_first f zero = sym (append-nil (f 0))
in_order_first f (suc n) =
    ap (λ (t : List ℕ). t ++ f (suc n)) (in_order_first f n) ∙ append_assoc (f 0) (in_order (λ i. f (suc i)) n) (f (suc n))

-- one text more is no longer than the whole
pub in_order_room : (f : ℕ → List ℕ) (n i : ℕ) → i < n → length (in_order f i ++ f i) ≤ length (in_order f n)
in_order_room f zero i h = absurd (omega arith)
in_order_room f (suc n) i h = elim (dec_lt i n) [
  | yes l ↦ omega (arith, in_order_room f n i l, length-append (in_order f n) (f n))
  | no g ↦ let q : i ≡ n = omega arith in rw q (omega arith)
]

-- one element more has the next number
pub numbered_more : {A : Type 0} (f : ℕ → A → List ℕ) (k : ℕ) (xs : List A) (x : A) → numbered f k (xs ++ (x ∷ [])) ≡ numbered f k xs ++ f (k + length xs) x
unfolding numbered
numbered_more f k [] x = append-nil (f k x) ∙ ap (λ (i : ℕ). f i x) (sym (add-zero k))
numbered_more f k (y ∷ xs) x =
    let e : f (suc k + length xs) x ≡ f (k + suc (length xs)) x = ap (λ (i : ℕ). f i x) (omega arith) in
    rw (numbered_more f (suc k) xs x, e, append_assoc)

-- lines of at most c octets each
pub numbered_short : {A : Type 0} (f : ℕ → A → List ℕ) (past : A) (c k : ℕ) (xs : List A)
    → ((i : ℕ) → i < length xs → length (f (k + i) (get_or xs i past)) ≤ c) → length (numbered f k xs) ≤ c * length xs
unfolding numbered
numbered_short f past c k [] h = omega arith
numbered_short f past c k (x ∷ xs) h =
    let e : length (f (k + 0) x) ≡ length (f k x) = ap (λ (i : ℕ). length (f i x)) (add-zero k) in
    let next : (i : ℕ) → i < length xs → length (f (suc k + i) (get_or xs i past)) ≤ c =
    λ i l. let q : suc k + i ≡ k + suc i = omega arith in rw q (h (suc i) (omega arith)) in
    rw length-append (omega (arith, e, h 0 (omega arith), numbered_short f past c (suc k) xs next))

----- Numbers, each after a space

abbrev pub number_text : List ℕ → ℕ → List ℕ
number_text ns i = spaced (get_or ns i 0)

pub numbers_order : (ns : List ℕ) → all_spaced ns ≡ in_order (number_text ns) (length ns)
numbers_order [] = refl
numbers_order (n ∷ ns) = ap (λ (t : List ℕ). spaced n ++ t) (numbers_order ns) ∙ sym (in_order_first (number_text (n ∷ ns)) (length ns))

----- A loop that puts one text a turn

pub record Upto (f : ℕ → List ℕ) (n : ℕ) (before after : List ℕ) (at i : ℕ) : Type 0 where
  pub within : i ≤ n
  pub put : Put (in_order f i) before after at

module _ (f : ℕ → List ℕ) (n : ℕ) (b₀ : List ℕ) where
  pub upto_none : Upto f n b₀ b₀ 0 0
  upto_none = record { within = omega arith; put = record { size = refl; written = refl } }

  pub upto_more : (b ys : List ℕ) (at r i : ℕ) → i < n → Upto f n b₀ b at i → Put (f i) (take (length b - at) (drop at b)) ys r
      → Upto f n b₀ (take at b ++ (ys ++ drop (length b - at) (drop at b))) (at + r) (i + 1)
  upto_more b ys at r i h u q =
      record { within = omega arith; put = put_same (ap (in_order f) (sym (add-one i))) (put_then (in_order f i) (f i) b₀ b ys at r u.put q) }

  pub upto_all : (b : List ℕ) (at i : ℕ) → n ≤ i → Upto f n b₀ b at i → Put (in_order f n) b₀ b at
  upto_all b at i h u =
      let e : i ≡ n = omega (arith, u.within) in
      put_same (ap (in_order f) e) u.put

  -- there is room for the next text
  module _ (b : List ℕ) (at i : ℕ) (u : Upto f n b₀ b at i) (l : i < n) (h : length (in_order f n) ≤ length b₀) where
    upto_room : length (in_order f i ++ f i) ≤ length b₀
    upto_room = omega (arith, in_order_room f n i l)

    pub upto_start : at ≤ length b
    upto_start = put_start (in_order f i) (f i) b₀ b at u.put upto_room

    pub upto_part : length (f i) ≤ length (take (length b - at) (drop at b))
    upto_part = put_part (in_order f i) (f i) b₀ b at u.put upto_room

    pub upto_end : (r : ℕ) → r ≡ length (f i) → at + r ≤ length b₀
    upto_end r e = omega (arith, upto_room, u.put.size, length-append (in_order f i) (f i))
