-- Reading a part at a position of a record, whatever its kind: what the code's answer says, and a loop that reads n parts and
-- fills an array with them. Assumes nothing.
use mathlib.Core.Path.{◌≡◌, refl, sym, ap, ◌∙◌}
use mathlib.Core.List.{List, [], ◌∷◌, ◌++◌}
use Prim.Native.Nat.{ℕ, suc, ◌+◌, ◌-◌, ◌≤◌, ◌<◌}
use native.Mathlib.Omega.{arith}
use lib.ListN.{length, set, drop, replicate, length-drop}
use lib.Seq.{set_at, append_snoc}
use Rattle.std.specs.Prelude.{Ok, Err}
use Rattle.numbers.specs.declared.Part.{Part}
use Rattle.numbers.specs.Field.{ParseBy, refused, accepted}
use Rattle.numbers.specs.Position.{part_answer}
use Rattle.numbers.proofs.Many.{Proper, behind_at, many, Midway, midway_none, midway_refused, midway_more, midway_all}

----- What an answer says, for any part

-- the part a was read, and the next one starts at a position of the record
pub record PartRead {R A : Type 0} (s : List ℕ) (p : ParseBy R A) (a : A) (next : ℕ) : Type 0 where
  pub accepts : p ≡ accepted a (drop next s)
  pub inside : next ≤ length s

-- the part that a value in the code holds
pub record Holds {R A B : Type 0} (hold : A → B) (s : List ℕ) (p : ParseBy R A) (b : B) (next : ℕ) : Type 0 where
  pub part : A
  pub held : b ≡ hold part
  pub read : PartRead s p part next

module _ {R A B : Type 0} (hold : A → B) where
  -- an answer that is a refusal tells it
  pub part_refused : (size : ℕ) (p : ParseBy R A) (e : R) → Err e ≡ part_answer hold size p → p ≡ refused e
  unfolding part_answer
  part_refused size (refused d) e h = let q : e ≡ d = cc in ap refused (sym q)
  part_refused size (accepted a rest) e h = absurd (let z : ◌≡◌ {A = ℕ} 0 1 = cc in omega arith)

  -- and one that is a part has read it
  pub part_read : (s : List ℕ) (at : ℕ) (p : ParseBy R A) (r : Part B) → Ok r ≡ part_answer hold (length s) p → at ≤ length s
      → Proper (drop at s) p → Holds hold s p r.value r.next
  unfolding part_answer
  part_read s at (refused e) r h l q = absurd (let z : ◌≡◌ {A = ℕ} 0 1 = cc in omega arith)
  part_read s at (accepted a rest) r h l q =
      let x : r ≡ record { value = hold a; next = length s - length rest } = cc in
      let g : r.next ≡ length s - length rest = ap (λ (y : Part B). y.next) x in
      record {
        part = a;
        held = ap (λ (y : Part B). y.value) x;
        read = record { accepts = rw g (ap (accepted a) (behind_at s at rest l q)); inside = omega arith };
      }

  -- the ways to answer
  pub answer_refused : (size : ℕ) (p : ParseBy R A) (e : R) → p ≡ refused e → Err e ≡ part_answer hold size p
  unfolding part_answer
  answer_refused size p e h = rw h refl

  pub answer_accepted : (s : List ℕ) (p : ParseBy R A) (a : A) (next : ℕ) → p ≡ accepted a (drop next s) → next ≤ length s
      → Ok (record { value = hold a; next = next }) ≡ part_answer hold (length s) p
  unfolding part_answer
  answer_accepted s p a next h l =
      let g : next ≡ length s - length (drop next s) = rw length-drop (omega arith) in
      ap (λ (x : ℕ). Ok (record { value = hold a; next = x })) g ∙ ap (part_answer hold (length s)) (sym h)

----- A loop that reads n parts and fills an array with them

pub record Filling {R A B : Type 0} (one : List ℕ → ParseBy R A) (fill : List A → List B) (n : ℕ) (s : List ℕ) (first at i : ℕ) (array : List B) : Type 0 where
  pub before : List A
  pub midway : Midway one n s first at i before
  pub holds : array ≡ fill before

module _ {R A B : Type 0} (one : List ℕ → ParseBy R A) (fill : List A → List B) (n : ℕ) (s : List ℕ) (first : ℕ) where
  pub filling_none : (array : List B) → first ≤ length s → array ≡ fill [] → Filling one fill n s first first 0 array
  filling_none array h e = record { before = []; midway = midway_none one n s first h; holds = e }

  module _ (at i : ℕ) (array : List B) (f : Filling one fill n s first at i array) where
    pub filling_refused : (e : R) → i < n → one (drop at s) ≡ refused e → many one n (drop first s) [] ≡ refused e
    filling_refused e h r = midway_refused one n s first at i f.before f.midway e h r

    pub filling_more : (a : A) (b : B) (next : ℕ) → i < n → PartRead s (one (drop at s)) a next
        → ((before : List A) → length before ≡ i → set (fill before) i b ≡ fill (before ++ (a ∷ [])))
        → Filling one fill n s first next (i + 1) (set array i b)
    filling_more a b next h r g = record {
      before = f.before ++ (a ∷ []);
      midway = midway_more one n s first at i f.before f.midway a next h r.accepts r.inside;
      holds = ap (λ (x : List B). set x i b) f.holds ∙ g f.before f.midway.counted;
    }

    pub filling_all : n ≤ i → many one n (drop first s) [] ≡ accepted f.before (drop at s)
    filling_all h = midway_all one n s first at i f.before f.midway h

-- one element more of an array that is filled from its front
pub set_next : {A : Type 0} (n : ℕ) (z : A) (xs : List A) (x : A) (i k : ℕ) → length xs ≡ i → i < n → k ≡ n - i
    → set (xs ++ replicate k z) i x ≡ (xs ++ (x ∷ [])) ++ replicate (n - (i + 1)) z
set_next n z xs x i k e h g =
    let q : k ≡ suc (n - (i + 1)) = omega arith in
    rw q (set_at xs z (replicate (n - (i + 1)) z) x i e ∙ sym (append_snoc xs x (replicate (n - (i + 1)) z)))
