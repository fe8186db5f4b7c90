-- Laws of writing numbers one after another to the front of a buffer: what is written so far stands before the rest of the buffer
-- as it was. Assumes nothing.
use mathlib.Core.Path.{◌≡◌, refl, sym, ap, ◌∙◌}
use mathlib.Core.List.{List, [], ◌∷◌, ◌++◌, append_assoc, append-nil}
use Prim.Native.Nat.{ℕ, suc, ◌+◌, ◌-◌, ◌/◌, ◌%◌, ◌^◌, ◌≤◌, ◌<◌}
use native.Mathlib.Omega.{arith}
use lib.ListN.{length, get_or, set, take, drop, length-append, length-drop, take-append-drop, drop_of_length-le}
use lib.Seq.{length-take-le, take_all, drop-cons, drop-drop, take_at, drop_at, set_at, append_snoc}
use Rattle.numbers.specs.Leb128.{groups, shortest, encode, over, over_at}
use Rattle.numbers.proofs.Groups.{shortest_last, shortest_cons}

----- A buffer with octets at its front

pub length_over : (e b : List ℕ) → length e ≤ length b → length (over e b) ≡ length b
length_over e b h = simp (length-append, length-drop) (omega arith)

-- a part of b, lent, with e written at its front, and put back
pub over_part : (e b ys : List ℕ) (at : ℕ) → ys ≡ over e (take (length b - at) (drop at b))
    → take at b ++ (ys ++ drop (length b - at) (drop at b)) ≡ over_at at e b
unfolding over_at
over_part e b ys at y =
    let l : length (drop at b) ≡ length b - at = length-drop at b in
    let z : drop (length b - at) (drop at b) ≡ [] = drop_of_length-le (drop at b) {i = length b - at} (omega arith) in
    let w : take (length b - at) (drop at b) ≡ drop at b = take_all (length b - at) (drop at b) (omega arith) in
    rw (z, y, w, append-nil)

-- x written behind e
pub over_at_lem : (e x b₀ b : List ℕ) (at : ℕ) → b ≡ over e b₀ → at ≡ length e → over_at at x b ≡ over (e ++ x) b₀
unfolding over_at
over_at_lem e x b₀ b at h a =
    let t : take at b ≡ e = rw h (take_at e (drop (length e) b₀) at (sym a)) in
    let d : drop at b ≡ drop (length e) b₀ = rw h (drop_at e (drop (length e) b₀) at (sym a)) in
    rw (t, d, length-append, append_assoc, drop-drop)

-- the same, where x is written to the part of b behind e
pub over_over : (e x b₀ b ys : List ℕ) (at : ℕ) → b ≡ over e b₀ → at ≡ length e
    → ys ≡ over x (take (length b - at) (drop at b))
    → take at b ++ (ys ++ drop (length b - at) (drop at b)) ≡ over (e ++ x) b₀
over_over e x b₀ b ys at h a y = over_part x b ys at y ∙ over_at_lem e x b₀ b at h a

-- what is written at a position is written behind what stands before it
pub over_take : (x b : List ℕ) (at : ℕ) → at ≤ length b → over_at at x b ≡ over (take at b ++ x) b
over_take x b at h =
    let l : length (take at b) ≡ at = length-take-le at b h in
    let w : b ≡ over (take at b) b = sym (ap (λ (n : ℕ). take at b ++ drop n b) l ∙ take-append-drop at b) in
    over_at_lem (take at b) x b b at w (sym l)

pub length_over_at : (x b : List ℕ) (at : ℕ) → at + length x ≤ length b → length (over_at at x b) ≡ length b
length_over_at x b at h =
    let l : length (take at b) ≡ at = length-take-le at b (omega arith) in
    ap length (over_take x b at (omega arith)) ∙ length_over (take at b ++ x) b (rw length-append (omega arith))

-- y written behind x
pub over_at_at : (x y b : List ℕ) (at : ℕ) → at ≤ length b → over_at (at + length x) y (over_at at x b) ≡ over_at at (x ++ y) b
over_at_at x y b at h =
    let l : length (take at b) ≡ at = length-take-le at b h in
    over_at_lem (take at b ++ x) y b (over_at at x b) (at + length x) (over_take x b at h) (sym (length-append (take at b) x ∙ ap (λ (n : ℕ). n + length x) l))
    ∙ ap (λ (e : List ℕ). over e b) (append_assoc (take at b) x y) ∙ sym (over_take (x ++ y) b at h)

-- the number behind those written, stored
pub over_set : (e b₀ b : List ℕ) (at v : ℕ) → b ≡ over e b₀ → at ≡ length e → at < length b₀ → set b at v ≡ over (e ++ (v ∷ [])) b₀
over_set e b₀ b at v s a h =
    let d : drop (length e) b₀ ≡ get_or b₀ at 0 ∷ drop (suc at) b₀ = ap (λ (k : ℕ). drop k b₀) (sym a) ∙ drop-cons b₀ at 0 h in
    let l : suc at ≡ length (e ++ (v ∷ [])) = omega (arith, length-append e (v ∷ [])) in
    ap (λ (t : List ℕ). set t at v) (s ∙ ap (λ (t : List ℕ). e ++ t) d)
    ∙ set_at e (get_or b₀ at 0) (drop (suc at) b₀) v at (sym a)
    ∙ sym (append_snoc e v (drop (suc at) b₀))
    ∙ ap (λ (k : ℕ). (e ++ (v ∷ [])) ++ drop k b₀) l

-- the first octet stored
pub over_one : (v : ℕ) (b : List ℕ) → 0 < length b → set b 0 v ≡ over (v ∷ []) b
over_one v b h = over_set [] b b 0 v refl refl h

-- four numbers stored, one after another
pub over_four : (e b₀ b : List ℕ) (at p q u v : ℕ) → b ≡ over e b₀ → at ≡ length e → at + 3 < length b₀
    → set (set (set (set b at p) (at + 1) q) (at + 2) u) (at + 3) v ≡ over (e ++ (p ∷ q ∷ u ∷ v ∷ [])) b₀
over_four e b₀ b at p q u v s a h =
    let e1 = e ++ (p ∷ []) in
    let e2 = e1 ++ (q ∷ []) in
    let e3 = e2 ++ (u ∷ []) in
    let l1 : at + 1 ≡ length e1 = omega (arith, length-append e (p ∷ [])) in
    let l2 : at + 2 ≡ length e2 = omega (arith, length-append e1 (q ∷ [])) in
    let l3 : at + 3 ≡ length e3 = omega (arith, length-append e2 (u ∷ [])) in
    let s1 = over_set e b₀ b at p s a (omega arith) in
    let s2 = over_set e1 b₀ _ (at + 1) q s1 l1 (omega arith) in
    let s3 = over_set e2 b₀ _ (at + 2) u s2 l2 (omega arith) in
    let joined : e3 ++ (v ∷ []) ≡ e ++ (p ∷ q ∷ u ∷ v ∷ []) = simp append_assoc in
    over_set e3 b₀ _ (at + 3) v s3 l3 h ∙ ap (λ (t : List ℕ). over t b₀) joined

-- a buffer written whole
pub over_all : (e b : List ℕ) → length b ≤ length e → over e b ≡ e
over_all e b h = ap (λ (t : List ℕ). e ++ t) (drop_of_length-le b h) ∙ append-nil e

----- One number

-- the two ways to write a number: one group, or a group before a number that is written to the part after it
pub wrote_last : (n : ℕ) (b : List ℕ) → n < 128 → 0 < length b → (1 ≡ length (shortest groups n)) × (set b 0 n ≡ over (shortest groups n) b)
wrote_last n b l h = rw (shortest_last (groups - 1) n l) (refl, over_one n b h)

pub wrote_more : (n : ℕ) (b ys : List ℕ) (r : ℕ) → 128 ≤ n → n < 128 ^ groups → 0 < length b
    → r ≡ length (shortest groups (n / 128))
    → ys ≡ over (shortest groups (n / 128)) (take (length (set b 0 (128 + n % 128)) - 1) (drop 1 (set b 0 (128 + n % 128))))
    → (1 + r ≡ length (shortest groups n))
    × (take 1 (set b 0 (128 + n % 128)) ++ (ys ++ drop (length (set b 0 (128 + n % 128)) - 1) (drop 1 (set b 0 (128 + n % 128)))) ≡ over (shortest groups n) b)
wrote_more n b ys r h l p e y =
    let x : ℕ = 128 + n % 128 in
    let s : shortest groups n ≡ (x ∷ []) ++ shortest groups (n / 128) = shortest_cons (groups - 2) n h l in
    (omega (arith, ap length s), over_over (x ∷ []) (shortest groups (n / 128)) b (set b 0 x) ys 1 (over_one x b p) refl y ∙ ap (λ (z : List ℕ). over z b) (sym s))

----- A list of numbers

pub encode_append : (xs ys : List ℕ) → encode (xs ++ ys) ≡ encode xs ++ encode ys
unfolding encode
encode_append [] ys = refl
encode_append (x ∷ xs) ys = ap (λ (r : List ℕ). shortest groups x ++ r) (encode_append xs ys) ∙ sym (append_assoc (shortest groups x) (encode xs) (encode ys))

pub encode_none : encode [] ≡ []
unfolding encode
encode_none = refl

pub encode_one : (x : ℕ) → encode (x ∷ []) ≡ shortest groups x
unfolding encode
encode_one x = append-nil (shortest groups x)

pub encode_cons : (x : ℕ) (xs : List ℕ) → encode (x ∷ xs) ≡ shortest groups x ++ encode xs
unfolding encode
encode_cons x xs = refl

-- one number more, behind those written
pub encode_more : (xs : List ℕ) (x : ℕ) → encode (xs ++ (x ∷ [])) ≡ encode xs ++ shortest groups x
encode_more xs x = encode_append xs (x ∷ []) ∙ ap (λ (r : List ℕ). encode xs ++ r) (encode_one x)

-- four numbers: a network's record is made of fours
pub encode_four : (a b c d : ℕ)
    → encode (a ∷ b ∷ c ∷ d ∷ []) ≡ ((shortest groups a ++ shortest groups b) ++ shortest groups c) ++ shortest groups d
encode_four a b c d =
    encode_more (a ∷ b ∷ c ∷ []) d ∙ ap (λ (r : List ℕ). r ++ shortest groups d)
    (encode_more (a ∷ b ∷ []) c ∙ ap (λ (r : List ℕ). r ++ shortest groups c)
    (encode_more (a ∷ []) b ∙ ap (λ (r : List ℕ). r ++ shortest groups b) (encode_one a)))
