-- Every sheet fits: a row's number has at most three digits, its blocks and the sum of all at most 20, so that a line has at most 36 octets.
-- The limits leave room to spare, so they may grow. Assumes nothing.
use mathlib.Core.List.{List, [], ◌∷◌}
use Prim.Native.Nat.{ℕ, suc, ◌+◌, ◌*◌, ◌^◌, ◌≤◌, ◌<◌}
use native.Mathlib.Omega.{arith}
use native.Mathlib.Nat.{mul-le-mul}
use lib.ListN.{length, get_or, length-append}
use Rattle.limits.specs.Limits.{most_rate, most_departures}
use Rattle.flows.specs.Rows.{Row, total}
use Rattle.plans.specs.declared.Plan.{Plan}
use Rattle.plans.specs.Held.{model_of}
use Rattle.plans.specs.InLimits.{RowInLimits, InLimits, past_row}
use Rattle.plans.proofs.Model.{row_model, length_rows_model}
use Rattle.texts.specs.Lines.{numbered}
use Rattle.texts.specs.Page.{text_most}
use Rattle.texts.proofs.Decimal.{length_decimal}
use Rattle.texts.proofs.InOrder.{numbered_short}
use Rattle.sheet_lines.specs.SheetText.{blocks_line, total_line, row_blocks, sheet_text}
use Rattle.sheet_lines.specs.Summable.{Summable}

-- the struct of a plan within the limits is as the sheet asks
pub summable : (places links : ℕ) (plan : Plan) → InLimits places links (model_of places plan) → Summable plan
summable places links plan w = record {
  count = omega (arith, w.count.high, length_rows_model places plan);
  rate = λ i h. (rw (row_model places plan i h) at (w.rows i (omega (arith, length_rows_model places plan)))).rate.high;
  departures = λ i h. (rw (row_model places plan i h) at (w.rows i (omega (arith, length_rows_model places plan)))).departures.high;
}

module _ (links : ℕ) where
  row_few : (r : Row) → RowInLimits links r → r.rate * r.departures ≤ most_rate * most_departures
  row_few r w = mul-le-mul {n₂ = most_rate} {m₂ = most_departures} w.rate.high w.departures.high

  total_few : (rs : List Row) → ((i : ℕ) → i < length rs → RowInLimits links (get_or rs i past_row)) → total rs ≤ most_rate * most_departures * length rs
  total_few [] w = omega arith
  total_few (r ∷ rs) w = omega (arith, row_few r (w 0 (omega arith)), total_few rs (λ i l. w (suc i) (omega arith)))

  row_short : (i : ℕ) (r : Row) → i < 1000 → RowInLimits links r → length (row_blocks i r) ≤ 36
  unfolding blocks_line
  row_short i r h w =
      simp length-append
      (omega (arith, length_decimal 2 i (omega arith), length_decimal 19 (r.rate * r.departures) (omega (arith, row_few r w))))

  rows_short : (k : ℕ) (rs : List Row) → k + length rs ≤ 1000 → ((i : ℕ) → i < length rs → RowInLimits links (get_or rs i past_row))
      → length (numbered row_blocks k rs) ≤ 36 * length rs
  rows_short k rs h w = numbered_short row_blocks past_row 36 k rs (λ i l. row_short (k + i) (get_or rs i past_row) (omega arith) (w i l))

total_short : (sum : ℕ) → sum < 10 ^ 20 → length (total_line sum) ≤ 27
unfolding total_line
total_short sum h = simp length-append (omega (arith, length_decimal 19 sum h))

pub sheet_short : (places links : ℕ) (plan : Plan) → InLimits places links (model_of places plan) → length (sheet_text (model_of places plan).rows) ≤ text_most
unfolding sheet_text
sheet_short places links plan w =
    let rs : List Row = (model_of places plan).rows in
    simp length-append
    (omega (
      arith,
      w.count.high,
      rows_short links 0 rs (omega (arith, w.count.high)) w.rows,
      total_short (total rs) (omega (arith, w.count.high, total_few links rs w.rows)),
    ))
