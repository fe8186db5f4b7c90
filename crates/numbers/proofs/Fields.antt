-- Laws of fields: each way to test a number against its limits, what is known of a field that was accepted, and the round trips of
-- numbers lifted to fields. Assumes nothing.
use mathlib.Core.Path.{◌≡◌, refl, sym, ap, ◌∙◌}
use mathlib.Core.List.{List, ◌++◌}
use mathlib.Core.Bool.{Bool, true, false, cond}
use Prim.Native.Nat.{ℕ, ◌+◌, ◌-◌, ◌^◌, ◌≤◌, ◌<◌}
use native.Mathlib.Omega.{arith}
use lib.ListN.{length, drop, length-drop}
use lib.Seq.{get_or-append-add}
use lib.Dec.{ltb}
use borrow.Author.Tests.{lt-ltb, le-ltb, ltb-false}
use Rattle.std.specs.Prelude.{Result, Ok, Err}
use Rattle.numbers.specs.declared.Refusals.{Refusals}
use Rattle.numbers.specs.declared.Misspelling.{Misspelling}
use Rattle.numbers.specs.declared.Misspelling.TheVariants.{Endless, Ended, Padded}
use Rattle.numbers.specs.declared.Part.{Part}
use Rattle.numbers.specs.Leb128.{groups, Octets, shortest, Reading, endless, ended, padded, is, read_groups}
use Rattle.numbers.specs.Field.{ParseBy, refused, accepted, refusal_of, limited, field}
use Rattle.numbers.specs.Position.{number_answer, groups_at, number_at, part_answer, field_answer}
use Rattle.numbers.proofs.Groups.{read_below, Taken, read_taken, written_read, read_written}
use Rattle.numbers.proofs.Positions.{stands, groups_is}

----- The code's ways to read a field at a position

limited_low : {R : Type 0} (r : Refusals R) (low high n : ℕ) (rest : List ℕ) → n < low → limited r low high (is n rest) ≡ refused r.outside
unfolding limited
limited_low r low high n rest l = rw (lt-ltb n low l)

limited_high : {R : Type 0} (r : Refusals R) (low high n : ℕ) (rest : List ℕ) → low ≤ n → high < n → limited r low high (is n rest) ≡ refused r.outside
unfolding limited
limited_high r low high n rest l h = rw (le-ltb n low l, lt-ltb high n h)

pub limited_is : {R : Type 0} (r : Refusals R) (low high n : ℕ) (rest : List ℕ) → low ≤ n → n ≤ high → limited r low high (is n rest) ≡ accepted n rest
unfolding limited
limited_is r low high n rest l h = rw (le-ltb n low l, le-ltb high n h)

-- a number that is misspelled is refused with the record's refusal for that
misspelled : {R : Type 0} (r : Refusals R) (low high size : ℕ) (g : Reading) (m : Misspelling) → Err m ≡ number_answer size g
    → Err (refusal_of r m) ≡ field_answer size (limited r low high g)
unfolding number_answer limited part_answer
misspelled r low high size endless m e = let q : m ≡ Endless = cc in ap (λ (x : Misspelling). Err (refusal_of r x)) q
misspelled r low high size ended m e = let q : m ≡ Ended = cc in ap (λ (x : Misspelling). Err (refusal_of r x)) q
misspelled r low high size padded m e = let q : m ≡ Padded = cc in ap (λ (x : Misspelling). Err (refusal_of r x)) q
misspelled r low high size (is n rest) m e = absurd (let z : ◌≡◌ {A = ℕ} 0 1 = cc in omega arith)

module _ {R : Type 0} (r : Refusals R) (low high : ℕ) (s : List ℕ) (at : ℕ) where
  abbrev answer : Result (Part ℕ) R
  answer = field_answer (length s) (field r low high (drop at s))

  pub field_misspelled : (m : Misspelling) → Err m ≡ number_at s at → Err (refusal_of r m) ≡ answer
  unfolding groups_at field
  field_misspelled m e = misspelled r low high (length s) (read_groups groups (drop at s)) m e

  module _ (f : Part ℕ) (e : Ok f ≡ number_at s at) where
    field_number : (p : ParseBy R ℕ) → limited r low high (is f.value (drop f.next s)) ≡ p → field_answer (length s) p ≡ answer
    unfolding field
    field_number p l = ap (field_answer (length s)) (sym l ∙ ap (limited r low high) (sym (groups_is groups s at f.value f.next (sym e)).reads))

    pub field_low : f.value < low → Err r.outside ≡ answer
    unfolding part_answer
    field_low l = field_number (refused r.outside) (limited_low r low high f.value (drop f.next s) l)

    pub field_high : low ≤ f.value → high < f.value → Err r.outside ≡ answer
    unfolding part_answer
    field_high l h = field_number (refused r.outside) (limited_high r low high f.value (drop f.next s) l h)

    pub field_within : low ≤ f.value → f.value ≤ high → Ok f ≡ answer
    unfolding part_answer
    field_within l h =
        let w = groups_is groups s at f.value f.next (sym e) in
        let d : f.next ≡ length s - length (drop f.next s) = rw length-drop (omega arith) in
        ap (λ (x : ℕ). Ok (record { value = f.value; next = x })) d
        ∙ field_number (accepted f.value (drop f.next s)) (limited_is r low high f.value (drop f.next s) l h)

----- What is known of a field that was read

limited_accepted : {R : Type 0} (r : Refusals R) (low high : ℕ) (g : Reading) (n : ℕ) (rest : List ℕ) → limited r low high g ≡ accepted n rest
    → (g ≡ is n rest) × (low ≤ n) × (n ≤ high)
unfolding limited
limited_accepted r low high endless n rest h = absurd (let z : ◌≡◌ {A = ℕ} 0 1 = cc in omega arith)
limited_accepted r low high ended n rest h = absurd (let z : ◌≡◌ {A = ℕ} 0 1 = cc in omega arith)
limited_accepted r low high padded n rest h = absurd (let z : ◌≡◌ {A = ℕ} 0 1 = cc in omega arith)
limited_accepted r low high (is m t) n rest h = go (ltb m low) (ltb high m) refl refl h
  where
    go : (a b : Bool) → ltb m low ≡ a → ltb high m ≡ b → cond a (refused r.outside) (cond b (refused r.outside) (accepted m t)) ≡ accepted n rest
        → (is m t ≡ is n rest) × (low ≤ n) × (n ≤ high)
    go true b e f g = absurd (let z : ◌≡◌ {A = ℕ} 0 1 = cc in omega arith)
    go false true e f g = absurd (let z : ◌≡◌ {A = ℕ} 0 1 = cc in omega arith)
    go false false e f g =
        let q : m ≡ n = cc in
        (cc, omega (arith, ltb-false m low e), omega (arith, ltb-false high m f))

-- a field that was accepted: the number read, within its limits, and the octets that remain
pub record Accepted (lo hi : ℕ) (s : List ℕ) (n : ℕ) (rest : List ℕ) : Type 0 where
  pub reads : read_groups groups s ≡ is n rest
  pub low : lo ≤ n
  pub high : n ≤ hi
  pub below : n < 128 ^ groups
  pub taken : Taken s rest

pub field_accepted : {R : Type 0} (r : Refusals R) (low high : ℕ) (s : List ℕ) (n : ℕ) (rest : List ℕ) → field r low high s ≡ accepted n rest → Accepted low high s n rest
unfolding field
field_accepted r low high s n rest h =
    let a = limited_accepted r low high (read_groups groups s) n rest h in
    record { reads = a.0; low = a.1; high = a.2; below = read_below groups s n rest a.0; taken = read_taken groups s n rest a.0 }

-- a field that the code read at a position
pub record ReadAt {R : Type 0} (r : Refusals R) (lo hi : ℕ) (s : List ℕ) (at n next : ℕ) : Type 0 where
  pub accepts : field r lo hi (drop at s) ≡ accepted n (drop next s)
  pub later : at < next
  pub inside : next ≤ length s
  pub low : lo ≤ n
  pub high : n ≤ hi

answered : {R : Type 0} (r : Refusals R) (low high : ℕ) (s : List ℕ) (at : ℕ) (f : Part ℕ) (p : ParseBy R ℕ) → field r low high (drop at s) ≡ p
    → Ok f ≡ field_answer (length s) p → ReadAt r low high s at f.value f.next
unfolding part_answer
answered r low high s at f (refused e) g h = absurd (let z : ◌≡◌ {A = ℕ} 0 1 = cc in omega arith)
answered r low high s at f (accepted m rest) g h =
    let a = field_accepted r low high (drop at s) m rest g in
    let w = stands groups s at m rest a.reads in
    let q : f ≡ record { value = m; next = length s - length rest } = cc in
    let x : f.value ≡ m = ap (λ (y : Part ℕ). y.value) q in
    let y : f.next ≡ length s - length rest = ap (λ (z : Part ℕ). z.next) q in
    let d : rest ≡ drop f.next s = let z : is m rest ≡ is m (drop (length s - length rest) s) = sym a.reads ∙ w.reads in rw y (cc) in
    record { accepts = g ∙ (λ i. accepted (sym x i) (d i)); later = omega arith; inside = omega arith; low = omega arith; high = omega arith }

-- the code's answer, where it is a part
pub field_read : {R : Type 0} (r : Refusals R) (low high : ℕ) (s : List ℕ) (at : ℕ) (f : Part ℕ) → Ok f ≡ field_answer (length s) (field r low high (drop at s))
    → ReadAt r low high s at f.value f.next
field_read r low high s at f h = answered r low high s at f (field r low high (drop at s)) refl h

----- Round trips

-- what is written is accepted
pub field_written : {R : Type 0} (r : Refusals R) (low high n : ℕ) (rest : List ℕ) → low ≤ n → n ≤ high → n < 128 ^ groups
    → field r low high (shortest groups n ++ rest) ≡ accepted n rest
unfolding field
field_written r low high n rest l h b = ap (limited r low high) (written_read (groups - 1) n rest b) ∙ limited_is r low high n rest l h

-- what is accepted was written
pub written_field : {R : Type 0} (r : Refusals R) (low high : ℕ) (s : List ℕ) (n : ℕ) (rest : List ℕ) → Octets s → field r low high s ≡ accepted n rest
    → s ≡ shortest groups n ++ rest
written_field r low high s n rest o h = read_written groups s n rest o (field_accepted r low high s n rest h).reads

-- the octets that remain are octets
pub octets_rest : (s front rest : List ℕ) → s ≡ front ++ rest → Octets s → Octets rest
octets_rest s front rest e o i = rw (← get_or-append-add front rest i 0, ← e) (o (length front + i))
