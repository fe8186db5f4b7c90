-- Where the two records stand in an input: the code's positions are those of the definition's octets. Assumes nothing.
use mathlib.Core.Path.{◌≡◌, refl, sym, ap, ◌∙◌}
use mathlib.Core.List.{List, []}
use Prim.Native.Nat.{ℕ, ◌+◌, ◌-◌, ◌≤◌, ◌<◌}
use native.Mathlib.Omega.{arith}
use native.Mathlib.Decide.{dec_lt}
use lib.ListN.{length, take, drop, length-drop, length-take}
use lib.Seq.{drop-drop}
use borrow.Author.Tests.{lt-ltb, le-ltb}
use Rattle.numbers.specs.Leb128.{groups, Reading, endless, ended, padded, is, read_groups}
use Rattle.std.specs.Prelude.{Result, Ok, Err}
use Rattle.refusals.specs.declared.Refusal.{Refusal}
use Rattle.refusals.specs.declared.Refusal.TheVariants.{NetworkEnds, NetworkNotShortest, NetworkContinues}
use Rattle.numbers.specs.declared.Misspelling.TheVariants.{Endless, Ended, Padded}
use Rattle.numbers.specs.declared.Misspelling.{Misspelling}
use Rattle.numbers.specs.Field.{Parse, refused, accepted, refusal_of}
use Rattle.numbers.specs.Position.{number_answer, groups_at, number_at}
use Rattle.numbers.proofs.Positions.{groups_is}
use Rattle.network.specs.Record.{number_refusals}
use Rattle.inputs.specs.declared.Frame.{Frame}
use Rattle.inputs.specs.Frame.{Records, parted, framed_by, framed}
use Rattle.inputs.specs.Answer.{frame_answer}

----- The length number

misspelled : (size : ℕ) (x : Reading) (m : Misspelling) → number_answer size x ≡ Err m → Err (refusal_of number_refusals m) ≡ frame_answer size (framed_by x)
unfolding number_answer framed_by frame_answer
misspelled size ended m h = let q : Ended ≡ m = cc in ap (λ (z : Misspelling). Err (refusal_of number_refusals z)) (sym q)
misspelled size padded m h = let q : Padded ≡ m = cc in ap (λ (z : Misspelling). Err (refusal_of number_refusals z)) (sym q)
misspelled size endless m h = let q : Endless ≡ m = cc in ap (λ (z : Misspelling). Err (refusal_of number_refusals z)) (sym q)
misspelled size (is n rest) m h = cc

pub framed_misspelled : (input : List ℕ) (m : Misspelling) → number_at input 0 ≡ Err m → Err (refusal_of number_refusals m) ≡ frame_answer (length input) (framed input)
unfolding groups_at framed
framed_misspelled input m h = misspelled (length input) (read_groups groups input) m h

-- the two records that stand from a position on
abbrev pub records_at : List ℕ → ℕ → ℕ → Records
records_at input start n = record { network = take n (drop start input); plan = drop n (drop start input) }

module _ (input : List ℕ) (n start : ℕ) (h : number_at input 0 ≡ Ok (record { value = n; next = start })) where
  pub starts_inside : start ≤ length input
  starts_inside = (groups_is groups input 0 n start h).inside

  framed_is : framed input ≡ parted n (drop start input)
  unfolding framed framed_by
  framed_is = ap framed_by (groups_is groups input 0 n start h).reads

  pub framed_few : length input - start < n → Err NetworkEnds ≡ frame_answer (length input) (framed input)
  unfolding parted frame_answer
  framed_few l = rw (framed_is, length-drop start input, lt-ltb (length input - start) n l)

  framed_both : n ≤ length input - start → framed input ≡ accepted (records_at input start n) []
  unfolding parted
  framed_both l = rw (framed_is, length-drop start input, le-ltb (length input - start) n l)

  pub framed_two : n ≤ length input - start → Ok (record { start = start; end = start + n }) ≡ frame_answer (length input) (framed input)
  unfolding frame_answer
  framed_two l =
      let x : ℕ = length (take n (drop start input)) in
      let y : ℕ = length (drop n (drop start input)) in
      let a : x ≡ n = length-take n (drop start input) ∙ omega (arith, length-drop start input) in
      let b : y ≡ length input - start - n = length-drop n (drop start input) ∙ omega (arith, length-drop start input) in
      let p : start ≡ length input - (x + y) = omega (arith, starts_inside) in
      let q : start + n ≡ length input - y = omega (arith, starts_inside) in
      rw (framed_both l, ← p, ← q)

----- What an answer says of the input

number_told : (input : List ℕ) (n : ℕ) (rest : List ℕ) → read_groups groups input ≡ is n rest → number_at input 0 ≡ Ok (record { value = n; next = length input - length rest })
unfolding groups_at number_answer
number_told input n rest g = rw g

-- the network's record stands from start to end, and the plan's from there on
pub record Framed (input : List ℕ) (start end : ℕ) : Type 0 where
  pub ordered : start ≤ end
  pub inside : end ≤ length input
  pub are : framed input ≡ accepted (record { network = take (end - start) (drop start input); plan = drop end input }) []

module _ (input : List ℕ) (start end : ℕ) where
  frame_reads : (x : Reading) → read_groups groups input ≡ x → frame_answer (length input) (framed input) ≡ Ok (record { start = start; end = end })
      → Framed input start end
  unfolding framed framed_by frame_answer
  frame_reads ended g h = absurd (let e : Err NetworkEnds ≡ Ok (record { start = start; end = end }) = rw g at h in let z : ◌≡◌ {A = ℕ} 0 1 = cc in omega arith)
  frame_reads padded g h = absurd (let e : Err NetworkNotShortest ≡ Ok (record { start = start; end = end }) = rw g at h in let z : ◌≡◌ {A = ℕ} 0 1 = cc in omega arith)
  frame_reads endless g h = absurd (let e : Err NetworkContinues ≡ Ok (record { start = start; end = end }) = rw g at h in let z : ◌≡◌ {A = ℕ} 0 1 = cc in omega arith)
  frame_reads (is n rest) g h =
      let at : ℕ = length input - length rest in
      let told : number_at input 0 ≡ Ok (record { value = n; next = at }) = number_told input n rest g in
      elim (dec_lt (length input - at) n) [
        | yes l ↦
            let e : ◌≡◌ {A = Result Frame Refusal} (Err NetworkEnds) (Ok (record { start = start; end = end })) = framed_few input n at told l ∙ h in
            absurd (let z : ◌≡◌ {A = ℕ} 0 1 = cc in omega arith)
        | no l ↦
            let enough : n ≤ length input - at = omega arith in
            let e : ◌≡◌ {A = Result Frame Refusal} (Ok (record { start = at; end = at + n })) (Ok (record { start = start; end = end })) = framed_two input n at told enough ∙ h in
            let f : ◌≡◌ {A = Frame} (record { start = at; end = at + n }) (record { start = start; end = end }) = cc in
            let p : at ≡ start = ap (λ (x : Frame). x.start) f in
            let q : at + n ≡ end = ap (λ (x : Frame). x.end) f in
            let m : n ≡ end - start = omega arith in
            let d : drop n (drop at input) ≡ drop end input = drop-drop n at input ∙ ap (λ (k : ℕ). drop k input) q in
            record {
              ordered = omega arith;
              inside = omega (arith, starts_inside input n at told);
              are = framed_both input n at told enough ∙ rw (d, p, m);
            }
      ]

  pub frame_is : frame_answer (length input) (framed input) ≡ Ok (record { start = start; end = end }) → Framed input start end
  frame_is h = frame_reads (read_groups groups input) refl h

-- a refusal is the definition's
pub frame_refused : (size : ℕ) (x : Parse Records) (e : Refusal) → frame_answer size x ≡ Err e → x ≡ refused e
unfolding frame_answer
frame_refused size (refused d) e h = let q : d ≡ e = cc in ap refused q
frame_refused size (accepted r rest) e h = cc
