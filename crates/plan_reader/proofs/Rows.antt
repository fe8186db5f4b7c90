-- Rows read one after another into an array: each way through the loop is one law. Assumes nothing.
use mathlib.Core.Path.{◌≡◌, ap, ◌∙◌}
use mathlib.Core.List.{List, [], ◌∷◌, ◌++◌, map, map-append}
use Prim.Native.Nat.{ℕ, ◌+◌, ◌-◌, ◌≤◌, ◌<◌}
use native.Mathlib.Omega.{arith}
use lib.ListN.{length, set, drop, length-append, length-map}
use Rattle.std.specs.Prelude.{Ok, Err}
use Rattle.limits.specs.Limits.{most_rows}
use Rattle.refusals.specs.declared.Refusal.{Refusal}
use Rattle.numbers.specs.declared.Part.{Part}
use Rattle.numbers.proofs.Parts.{Holds, part_read, part_refused, answer_refused, answer_accepted, set_next, Filling, filling_refused, filling_more, filling_all}
use Rattle.flows.specs.Rows as rows
use Rattle.plans.specs.declared.Row.{Row}
use Rattle.plans.specs.Record.{read_row, read_rows}
use Rattle.plans.specs.Held.{held_row, no_row, held_rows}
use Rattle.plans.proofs.Parts.{rows_many, rows_proper}
use Rattle.plan_parts.specs.Cursor.{row_answer}
use Rattle.plan_parts.proofs.Cursor.{row_part}
use Rattle.plan_reader.specs.Rows.{rows_answer}

-- what was read, where the answer is no refusal
pub rows_part : (s : List ℕ) (at n links : ℕ) (r : Part (List Row)) → at ≤ length s → Ok r ≡ rows_answer (length s) (read_rows n links (drop at s) [])
    → Holds held_rows s (read_rows n links (drop at s) []) r.value r.next
rows_part s at n links r l e = part_read held_rows s at (read_rows n links (drop at s) []) r e l (rows_proper n links (drop at s))

----- The loop that reads them

set_rows : (rs : List rows.Row) (r : rows.Row) (i : ℕ) → length rs ≡ i → i < most_rows → set (held_rows rs) i (held_row r) ≡ held_rows (rs ++ (r ∷ []))
unfolding held_rows
set_rows rs r i e h =
    let l : length (rs ++ (r ∷ [])) ≡ i + 1 = length-append rs (r ∷ []) ∙ omega arith in
    rw (l, map-append) (set_next most_rows no_row (map held_row rs) (held_row r) i (most_rows - length rs) (length-map rs held_row ∙ e) h (omega arith))

module _ (n links : ℕ) (s : List ℕ) (first at i : ℕ) (array : List Row) (f : Filling (read_row links) held_rows n s first at i array) where
  pub rows_stop : (e : Refusal) → i < n → Err e ≡ row_answer (length s) (read_row links (drop at s))
      → Err e ≡ rows_answer (length s) (read_rows n links (drop first s) [])
  rows_stop e h g =
      answer_refused held_rows _ _ _
      (rows_many n links (drop first s) []
      ∙ filling_refused (read_row links) held_rows n s first at i array f e h (part_refused held_row (length s) (read_row links (drop at s)) e g))

  pub rows_next : (r : Part Row) → i < n → Ok r ≡ row_answer (length s) (read_row links (drop at s)) → n ≤ most_rows
      → Filling (read_row links) held_rows n s first r.next (i + 1) (set array i r.value)
  rows_next r h e l =
      let p = row_part s at links r f.midway.inside e in
      filling_more (read_row links) held_rows n s first at i array f p.part r.value r.next h p.read
      (λ before c. ap (set (held_rows before) i) p.held ∙ set_rows before p.part i c (omega arith))

  pub rows_all : n ≤ i → Ok (record { value = array; next = at }) ≡ rows_answer (length s) (read_rows n links (drop first s) [])
  rows_all h =
      ap (λ (a : List Row). Ok (record { value = a; next = at })) f.holds
      ∙ answer_accepted held_rows s _ f.before at
      (rows_many n links (drop first s) [] ∙ filling_all (read_row links) held_rows n s first at i array f h) f.midway.inside
