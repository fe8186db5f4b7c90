-- Writing a plan's rows, one after another, each to the part that starts behind the one before it: those from the i-th on are still to be
-- written. Assumes nothing.
use mathlib.Core.Path.{◌≡◌, sym, subst, ◌∙◌}
use mathlib.Core.List.{List, [], ◌∷◌, ◌++◌}
use Prim.Native.Nat.{ℕ, ◌+◌, ◌≤◌, ◌<◌}
use native.Mathlib.Numerals.{add-one}
use lib.ListN.{length, get_or, drop, drop_of_length-le}
use lib.Seq.{drop-cons}
use Rattle.numbers.specs.Leb128.{encode, over_at}
use Rattle.numbers.specs.Writing.{Writable}
use Rattle.numbers.proofs.Stages.{Stage, stage_writable, stage_next, stage_all}
use Rattle.flows.specs.Rows as rows
use Rattle.plans.specs.declared.Plan.{Plan}
use Rattle.plans.specs.Record.{row_numbers, rows_numbers}
use Rattle.plans.specs.Held.{row_of, past, rows_below}
use Rattle.plans.specs.InLimits.{past_row}
use Rattle.plans.proofs.Model.{length_rows, get_d_rows}

-- the numbers of row i, and those of the rows from i on
abbrev pub row_at : Plan → ℕ → List ℕ
row_at plan i = row_numbers (row_of (get_or plan.rows i past))

abbrev pub rows_from : Plan → ℕ → List ℕ
rows_from plan i = rows_numbers (drop i (rows_below plan plan.count))

abbrev pub Rows : Plan → List ℕ → ℕ → ℕ → List ℕ → ℕ → Type 0
Rows plan b₀ start i b at = Stage (rows_numbers (rows_below plan plan.count)) b₀ start (rows_from plan i) b at

module _ (plan : Plan) (b₀ : List ℕ) (start : ℕ) (w : Writable (rows_numbers (rows_below plan plan.count)) b₀ start) (b : List ℕ) (at i : ℕ)
    (s : Rows plan b₀ start i b at) (h : i < plan.count) where
  row_stage : Stage (rows_numbers (rows_below plan plan.count)) b₀ start (row_at plan i ++ rows_from plan (i + 1)) b at
  row_stage =
      let rs : List rows.Row = rows_below plan plan.count in
      let l : i < length rs = rw length_rows h in
      let e : drop i rs ≡ row_of (get_or plan.rows i past) ∷ drop (i + 1) rs =
      drop-cons rs i past_row l ∙ (λ j. get_d_rows plan plan.count i h j ∷ drop (sym (add-one i) j) rs) in
      subst (λ (x : List rows.Row). Stage (rows_numbers rs) b₀ start (rows_numbers x) b at) e s

  pub row_writable : Writable (row_at plan i) b at
  row_writable = stage_writable (rows_numbers (rows_below plan plan.count)) b₀ start w (row_at plan i) (rows_from plan (i + 1)) b at row_stage

  pub row_next : (c : List ℕ) (end : ℕ) → (end ≡ at + length (encode (row_at plan i))) × (c ≡ over_at at (encode (row_at plan i)) b) → Rows plan b₀ start (i + 1) c end
  row_next c end d = stage_next (rows_numbers (rows_below plan plan.count)) b₀ start w (row_at plan i) (rows_from plan (i + 1)) b at row_stage c end d

pub rows_all : (plan : Plan) (b₀ : List ℕ) (start : ℕ) (b : List ℕ) (at i : ℕ) → plan.count ≤ i → Rows plan b₀ start i b at
    → (at ≡ start + length (encode (rows_numbers (rows_below plan plan.count)))) × (b ≡ over_at start (encode (rows_numbers (rows_below plan plan.count))) b₀)
rows_all plan b₀ start b at i h s =
    let rs : List rows.Row = rows_below plan plan.count in
    let z : drop i rs ≡ [] = drop_of_length-le rs {i = i} (rw length_rows h) in
    stage_all (rows_numbers rs) b₀ start b at (subst (λ (x : List rows.Row). Stage (rows_numbers rs) b₀ start (rows_numbers x) b at) z s)
