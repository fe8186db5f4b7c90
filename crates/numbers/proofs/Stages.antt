-- Writing numbers part by part, each from the position after the part before it: what is written so far stands between the octets before
-- and after it as they were. Assumes nothing.
use mathlib.Core.Path.{◌≡◌, refl, sym, ap, subst, ◌∙◌}
use mathlib.Core.List.{List, [], ◌∷◌, ◌++◌, append_assoc, append-nil}
use Prim.Native.Nat.{ℕ, suc, ◌+◌, ◌^◌, ◌≤◌, ◌<◌}
use native.Mathlib.Omega.{arith}
use native.Mathlib.Numerals.{add-one}
use lib.ListN.{length, get_or, take, drop, length-append, length-take, take-append-drop, drop_of_length-le}
use lib.Seq.{get_or-take, length-take-le, drop-cons}
use Rattle.numbers.specs.Leb128.{groups, encode, over, over_at}
use Rattle.numbers.specs.Writing.{Fit, Writable}
use Rattle.numbers.proofs.Written.{encode_append, encode_none, length_over_at, over_at_at}

----- Numbers that have a shortest form

pub fit_of : (ns : List ℕ) → ((i : ℕ) → i < length ns → get_or ns i 0 < 128 ^ groups) → Fit ns
fit_of [] h = tt
fit_of (n ∷ ns) h = (h 0 (omega arith), fit_of ns (λ i l. h (suc i) (omega arith)))

pub fit_append : (xs ys : List ℕ) → Fit xs → Fit ys → Fit (xs ++ ys)
fit_append [] ys a b = b
fit_append (x ∷ xs) ys a b = (a.0, fit_append xs ys a.1 b)

fit_front : (xs ys : List ℕ) → Fit (xs ++ ys) → Fit xs
fit_front [] ys a = tt
fit_front (x ∷ xs) ys a = (a.0, fit_front xs ys a.1)

fit_rest : (xs ys : List ℕ) → Fit (xs ++ ys) → Fit ys
fit_rest [] ys a = a
fit_rest (x ∷ xs) ys a = fit_rest xs ys a.1

----- One part and then another

pub length_encode : (xs ys : List ℕ) → length (encode (xs ++ ys)) ≡ length (encode xs) + length (encode ys)
length_encode xs ys = ap length (encode_append xs ys) ∙ length-append (encode xs) (encode ys)

-- writing no number
pub write_none : (b : List ℕ) (at : ℕ) → over_at at (encode []) b ≡ b
unfolding over_at encode
write_none b at = take-append-drop at b

-- writing xs and then ys is writing xs ++ ys
pub write_append : (xs ys b : List ℕ) (at : ℕ) → at ≤ length b → over_at (at + length (encode xs)) (encode ys) (over_at at (encode xs) b) ≡ over_at at (encode (xs ++ ys)) b
write_append xs ys b at h = over_at_at (encode xs) (encode ys) b at h ∙ ap (λ (e : List ℕ). over_at at e b) (sym (encode_append xs ys))

----- Of the numbers to write, all, those of later are still to be written

-- b₀ are the octets before, and b those after the numbers so far; at is the position after these
pub record Stage (all b₀ : List ℕ) (start : ℕ) (later b : List ℕ) (at : ℕ) : Type 0 where
  pub done : List ℕ
  pub split : all ≡ done ++ later
  pub place : at ≡ start + length (encode done)
  pub holds : b ≡ over_at start (encode done) b₀
  pub inside : at ≤ length b
  pub size : length b ≡ length b₀

pub stage_none : (all b₀ : List ℕ) (start : ℕ) → Writable all b₀ start → Stage all b₀ start all b₀ start
stage_none all b₀ start w = record {
  done = [];
  split = refl;
  place = omega (arith, ap length encode_none);
  holds = sym (write_none b₀ start);
  inside = omega (arith, w.room);
  size = refl;
}

module _ (all b₀ : List ℕ) (start : ℕ) (w : Writable all b₀ start) (new later b : List ℕ) (at : ℕ) (s : Stage all b₀ start (new ++ later) b at) where
  room : at + length (encode new) ≤ length b₀
  room =
      omega (
        arith,
        w.room,
        s.place,
        ap (λ (x : List ℕ). length (encode x)) s.split,
        length_encode s.done (new ++ later),
        length_encode new later,
      )

  -- there is room for the next part
  pub stage_writable : Writable new b at
  stage_writable = record {
    fit = fit_front new later (fit_rest s.done (new ++ later) (subst Fit s.split w.fit));
    room = omega (arith, room, s.size);
  }

  -- and it is written
  pub stage_next : (c : List ℕ) (end : ℕ) → (end ≡ at + length (encode new)) × (c ≡ over_at at (encode new) b) → Stage all b₀ start later c end
  stage_next c end d =
      let behind : over_at at (encode new) b ≡ over_at (start + length (encode s.done)) (encode new) (over_at start (encode s.done) b₀) =
      λ j. over_at (s.place j) (encode new) (s.holds j) in
      let size : length c ≡ length b₀ = ap length d.1 ∙ length_over_at (encode new) b at (omega (arith, room, s.size)) ∙ s.size in
      record {
        done = s.done ++ new;
        split = s.split ∙ sym (append_assoc s.done new later);
        place = omega (arith, d.0, s.place, length_encode s.done new);
        holds = d.1 ∙ behind ∙ write_append s.done new b₀ start (omega (arith, w.room));
        inside = omega (arith, room, d.0);
        size = size;
      }

pub stage_all : (all b₀ : List ℕ) (start : ℕ) (b : List ℕ) (at : ℕ) → Stage all b₀ start [] b at
    → (at ≡ start + length (encode all)) × (b ≡ over_at start (encode all) b₀)
stage_all all b₀ start b at s = rw (s.split ∙ append-nil s.done) (s.place, s.holds)

-- what is still to be written can be written at once
module _ (all b₀ : List ℕ) (start : ℕ) (w : Writable all b₀ start) (later b : List ℕ) (at : ℕ) (s : Stage all b₀ start later b at) where
  whole : Stage all b₀ start (later ++ []) b at
  whole = rw append-nil s

  pub rest_writable : Writable later b at
  rest_writable = stage_writable all b₀ start w later [] b at whole

  pub rest_all : (c : List ℕ) (end : ℕ) → (end ≡ at + length (encode later)) × (c ≡ over_at at (encode later) b)
      → (end ≡ start + length (encode all)) × (c ≡ over_at start (encode all) b₀)
  rest_all c end d = stage_all all b₀ start c end (stage_next all b₀ start w later [] b at whole c end d)

-- from the front on
pub front_all : (all b₀ b : List ℕ) (at : ℕ) → (at ≡ 0 + length (encode all)) × (b ≡ over_at 0 (encode all) b₀)
    → (at ≡ length (encode all)) × (b ≡ over (encode all) b₀)
unfolding over_at
front_all all b₀ b at d = (omega (arith, d.0), d.1)

----- A loop over the first n numbers of an array: those before i are written

module _ (array b₀ : List ℕ) (n start : ℕ) (k : n ≤ length array) (w : Writable (take n array) b₀ start) (b : List ℕ) (at i : ℕ)
    (s : Stage (take n array) b₀ start (drop i (take n array)) b at) (h : i < n) where
  number_stage : Stage (take n array) b₀ start ((get_or array i 0 ∷ []) ++ drop (i + 1) (take n array)) b at
  number_stage =
      let l : i < length (take n array) = rw (length-take-le n array k) h in
      let e : drop i (take n array) ≡ get_or array i 0 ∷ drop (i + 1) (take n array) =
      drop-cons (take n array) i 0 l ∙ (λ j. get_or-take n array i 0 h j ∷ drop (sym (add-one i) j) (take n array)) in
      rw (← e) s

  pub number_writable : Writable (get_or array i 0 ∷ []) b at
  number_writable = stage_writable (take n array) b₀ start w (get_or array i 0 ∷ []) (drop (i + 1) (take n array)) b at number_stage

  pub number_next : (c : List ℕ) (end : ℕ) → (end ≡ at + length (encode (get_or array i 0 ∷ []))) × (c ≡ over_at at (encode (get_or array i 0 ∷ [])) b)
      → Stage (take n array) b₀ start (drop (i + 1) (take n array)) c end
  number_next c end d = stage_next (take n array) b₀ start w (get_or array i 0 ∷ []) (drop (i + 1) (take n array)) b at number_stage c end d

pub numbers_all : (array b₀ : List ℕ) (n start : ℕ) (b : List ℕ) (at i : ℕ) → n ≤ i → Stage (take n array) b₀ start (drop i (take n array)) b at
    → (at ≡ start + length (encode (take n array))) × (b ≡ over_at start (encode (take n array)) b₀)
numbers_all array b₀ n start b at i h s =
    let z : drop i (take n array) ≡ [] = drop_of_length-le (take n array) {i = i} (rw length-take (omega arith)) in
    stage_all (take n array) b₀ start b at (rw z at s)
