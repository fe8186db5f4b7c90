-- The sheet adds up: read back from the printed text, the last line's number is the sum of those above it, under any verdict, and under
-- the verdict 0 it is the amount. The digits of a number are read back one by one; a word's letters are forgotten at the space after it.
-- Assumes nothing.
use mathlib.Core.Path.{◌≡◌, refl, ap, subst, ◌∙◌}
use mathlib.Core.List.{List, [], ◌∷◌, ◌++◌, map, append_assoc}
use Prim.Native.Nat.{ℕ, zero, suc, ◌+◌, ◌-◌, ◌*◌, ◌/◌, ◌%◌, ◌<◌}
use native.Mathlib.Omega.{arith}
use native.Mathlib.Decide.{dec_lt}
use lib.ListN.{length, length-map}
use borrow.Author.Tests.{ne_eqb, le-leb}
use Rattle.numbers.specs.Field.{accepted, and_then}
use Rattle.flows.specs.Rows.{Row, total}
use Rattle.flows.specs.Plan.{verdict}
use Rattle.flows.proofs.Verdict.{missummed_no, verdict_zero}
use Rattle.texts.specs.Decimal.{digit, decimal}
use Rattle.texts.specs.Words as words
use Rattle.texts.specs.Lines.{after, numbered}
use Rattle.texts.specs.Page.{text_of}
use Rattle.texts.proofs.Decimal.{decimal_last, decimal_more}
use Rattle.inputs.specs.Input.{Input, read_input}
use Rattle.sheet_lines.specs.SheetText.{blocks_line, total_line, row_blocks, sheet_text}
use Rattle.sheet_text.specs.Text.{sheeted}
use Rattle.sheet_text.specs.Printed.{Part, nothing, number, with_digit, last_from, last_parts, sum_of, AddsUp}

----- A number

one_digit : (part : Part) (d : ℕ) (rest : List ℕ) → d < 10 → last_from part (digit d ∷ rest) ≡ last_from (with_digit part d) rest
one_digit part d rest h =
    let a : 48 + d - 48 ≡ d = omega arith in
    rw (
      ne_eqb (48 + d) 10 (λ e. omega arith),
      ne_eqb (48 + d) 32 (λ e. omega arith),
      le-leb 48 (48 + d) (omega arith),
      le-leb (48 + d) 57 (omega arith),
      a,
    )

-- the digits of n, where fuel is enough for the recursion
reads_digits : (fuel n : ℕ) (rest : List ℕ) → n < fuel → last_from nothing (decimal n ++ rest) ≡ last_from (number n) rest
reads_digits zero n rest h = absurd (omega arith)
reads_digits (suc fuel) n rest h = elim (dec_lt n 10) [
  | yes l ↦ rw (decimal_last n l) (one_digit nothing n rest l)
  | no g ↦
      let q : n / 10 * 10 + n % 10 ≡ n = omega arith in
      rw (decimal_more n (omega arith), append_assoc)
      (reads_digits fuel (n / 10) (digit (n % 10) ∷ rest) (omega arith)
      ∙ one_digit (number (n / 10)) (n % 10) rest (omega arith)
      ∙ ap (λ (m : ℕ). last_from (number m) rest) q)
]

reads_decimal : (n : ℕ) (rest : List ℕ) → last_from nothing (decimal n ++ rest) ≡ last_from (number n) rest
reads_decimal n rest = reads_digits (suc n) n rest (omega arith)

----- Lines

reads_blocks : (i blocks : ℕ) (rest : List ℕ) → last_from nothing (blocks_line i blocks ++ rest) ≡ number blocks ∷ last_from nothing rest
unfolding blocks_line
reads_blocks i blocks rest =
    let tail : List ℕ = after (words.blocks ∷ decimal blocks ∷ []) in
    ap (last_from nothing) (append_assoc (decimal i) tail rest)
    ∙ reads_decimal i (tail ++ rest)
    ∙ ap (last_from nothing) (append_assoc (decimal blocks) (words.line_end ∷ []) rest)
    ∙ reads_decimal blocks (words.line_end ∷ rest)

reads_total : (sum : ℕ) → last_from nothing (total_line sum) ≡ number sum ∷ []
unfolding total_line
reads_total sum = reads_decimal sum (words.line_end ∷ [])

abbrev blocks_of : List Row → List ℕ
blocks_of rs = map (λ r. r.rate * r.departures) rs

reads_rows : (k : ℕ) (rs : List Row) (rest : List ℕ)
    → last_from nothing (numbered row_blocks k rs ++ rest) ≡ map number (blocks_of rs) ++ last_from nothing rest
unfolding numbered
reads_rows k [] rest = refl
reads_rows k (r ∷ rs) rest =
    ap (last_from nothing) (append_assoc (row_blocks k r) (numbered row_blocks (suc k) rs) rest)
    ∙ reads_blocks k (r.rate * r.departures) (numbered row_blocks (suc k) rs ++ rest)
    ∙ ap (λ (ps : List Part). number (r.rate * r.departures) ∷ ps) (reads_rows (suc k) rs rest)

blocks_total : (rs : List Row) → total rs ≡ sum_of (blocks_of rs)
blocks_total [] = refl
blocks_total (r ∷ rs) = ap (λ (n : ℕ). r.rate * r.departures + n) (blocks_total rs)

----- The sheet

lines_add_up : (rs : List Row) → AddsUp (sheet_text rs) (length rs) (total rs)
unfolding sheet_text last_parts
lines_add_up rs = record {
  above = blocks_of rs;
  one_a_line = length-map rs (λ (r : Row). r.rate * r.departures);
  printed = reads_rows 0 rs (total_line (total rs)) ∙ ap (λ (ps : List Part). map number (blocks_of rs) ++ ps) (reads_total (total rs));
  adds = blocks_total rs;
}

module _ (input : List ℕ) (i : Input) (rest : List ℕ) (read : read_input input ≡ accepted i rest) where
  text_is : sheet_text i.plan.rows ≡ sheeted input
  unfolding sheeted and_then text_of sheet_text
  text_is = rw read

  -- under any verdict
  pub sheet_adds_up : AddsUp (sheeted input) (length i.plan.rows) (total i.plan.rows)
  sheet_adds_up = subst (λ t. AddsUp t (length i.plan.rows) (total i.plan.rows)) text_is (lines_add_up i.plan.rows)

  -- under the verdict 0
  pub sheet_amount : verdict i.network i.plan ≡ 0 → AddsUp (sheeted input) (length i.plan.rows) i.plan.amount
  sheet_amount z =
      let sums : total i.plan.rows ≡ i.plan.amount = (missummed_no i.network i.plan.amount i.plan.rows).0 ((verdict_zero i.network i.plan).0 z).sums in
      subst (AddsUp (sheeted input) (length i.plan.rows)) sums sheet_adds_up
