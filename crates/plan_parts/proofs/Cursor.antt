-- Reading a part at a position of a plan's record: what the code's answer says was read. Assumes nothing.
use mathlib.Core.Path.{◌≡◌, ◌∙◌}
use mathlib.Core.List.{List, [], ◌∷◌, ◌++◌}
use Prim.Native.Nat.{ℕ, ◌+◌, ◌-◌, ◌≤◌, ◌<◌}
use native.Mathlib.Omega.{arith}
use lib.ListN.{length, set, drop, length-append}
use Rattle.std.specs.Prelude.{Ok, Err}
use Rattle.refusals.specs.declared.Refusal.{Refusal}
use Rattle.numbers.specs.declared.Part.{Part}
use Rattle.numbers.specs.Field.{refused, accepted}
use Rattle.numbers.specs.Position.{part_answer, field_answer}
use Rattle.numbers.proofs.Fields.{ReadAt, field_read}
use Rattle.numbers.proofs.Many.{fields_many}
use Rattle.numbers.proofs.Parts.{PartRead, Holds, part_read, part_refused, set_next, Filling, filling_refused, filling_more, filling_all}
use Rattle.plans.specs.declared.Row.{Row}
use Rattle.plans.specs.Record.{number_refusals, number, read_numbers, read_row}
use Rattle.plans.specs.Held.{padded, held_row}
use Rattle.plans.proofs.Parts.{numbers_proper, row_proper}

----- What the code has read

module _ (s : List ℕ) (at low high : ℕ) (r : Part ℕ) (e : Ok r ≡ field_answer (length s) (number low high (drop at s))) where
  number_read : ReadAt number_refusals low high s at r.value r.next
  number_read = field_read number_refusals low high s at r e

  pub number_part : PartRead s (number low high (drop at s)) r.value r.next
  number_part = record { accepts = number_read.accepts; inside = number_read.inside }

  pub number_high : r.value ≤ high
  number_high = number_read.high

-- a cut or a chain, and a row: what was read, and what holds it
pub numbers_part : {B : Type 0} (hold : List ℕ → B) (s : List ℕ) (at n low high : ℕ) (r : Part B) → at ≤ length s
    → Ok r ≡ part_answer hold (length s) (read_numbers n low high (drop at s) []) → Holds hold s (read_numbers n low high (drop at s) []) r.value r.next
numbers_part hold s at n low high r l e =
    part_read hold s at (read_numbers n low high (drop at s) []) r e l (numbers_proper n low high (drop at s))

pub row_part : (s : List ℕ) (at links : ℕ) (r : Part Row) → at ≤ length s → Ok r ≡ part_answer held_row (length s) (read_row links (drop at s))
    → Holds held_row s (read_row links (drop at s)) r.value r.next
row_part s at links r l e = part_read held_row s at (read_row links (drop at s)) r e l (row_proper links (drop at s))

----- The loop that reads numbers and fills an array with them, in the terms of the code

-- one element more of an array that is filled from its front
set_padded : (n : ℕ) (xs : List ℕ) (x i : ℕ) → length xs ≡ i → i < n → set (padded n xs) i x ≡ padded n (xs ++ (x ∷ []))
set_padded n xs x i e h =
    let l : length (xs ++ (x ∷ [])) ≡ i + 1 = length-append xs (x ∷ []) ∙ omega arith in
    rw l (set_next n 0 xs x i (n - length xs) e h (omega arith))

module _ (width n low high : ℕ) (s : List ℕ) (first at i : ℕ) (array : List ℕ) (f : Filling (number low high) (padded width) n s first at i array) where
  pub numbers_stop : (e : Refusal) → i < n → Err e ≡ field_answer (length s) (number low high (drop at s))
      → read_numbers n low high (drop first s) [] ≡ refused e
  numbers_stop e h g =
      fields_many number_refusals n low high (drop first s) []
      ∙ filling_refused (number low high) (padded width) n s first at i array f e h
      (part_refused (λ n. n) (length s) (number low high (drop at s)) e g)

  pub numbers_next : (r : Part ℕ) → i < n → Ok r ≡ field_answer (length s) (number low high (drop at s)) → n ≤ width
      → Filling (number low high) (padded width) n s first r.next (i + 1) (set array i r.value)
  numbers_next r h e l =
      filling_more (number low high) (padded width) n s first at i array f r.value r.value r.next h (number_part s at low high r e)
      (λ before c. set_padded width before r.value i c (omega arith))

  pub numbers_all : n ≤ i → read_numbers n low high (drop first s) [] ≡ accepted f.before (drop at s)
  numbers_all h = fields_many number_refusals n low high (drop first s) [] ∙ filling_all (number low high) (padded width) n s first at i array f h
