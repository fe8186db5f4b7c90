-- Every text fits: a number of a plan is below 10 ^ 10, so that it has at most ten digits, a link number three, and a row's line has at most
-- 330 octets. The limits leave room to spare, so they may grow. Assumes nothing.
use mathlib.Core.Path.{ap}
use mathlib.Core.List.{List, [], ◌∷◌}
use Prim.Native.Nat.{ℕ, suc, ◌+◌, ◌*◌, ◌^◌, ◌≤◌, ◌<◌}
use native.Mathlib.Omega.{arith}
use lib.ListN.{length, get_or, length-append}
use Rattle.std.proofs.lemmas.List.{map-id}
use Rattle.limits.specs.Limits.{most_places, most_links, most_cut_number, most_amount, longest_plan_horizon}
use Rattle.flows.specs.Rows.{Row}
use Rattle.flows.specs.Plan.{Plan}
use Rattle.plans.specs.InLimits.{RowInLimits, InLimits, past_row}
use Rattle.plan_lines.specs.PlanText.{verdict_line, amount_line, row_lines, cut_line, plan_tail, plan_body, plan_text}
use Rattle.row_lines.specs.RowLine.{row_line}
use Rattle.texts.specs.Page.{text_most}
use Rattle.texts.specs.Put.{all_spaced}
use Rattle.texts.proofs.Decimal.{length_decimal}
use Rattle.texts.proofs.InOrder.{numbered_short}
use Rattle.row_lines.proofs.RowLine.{row_parts}
use Rattle.plan_lines.proofs.PlanLines.{cut_parts}

-- numbers of at most k + 1 digits, each after a space
numbers_short : (k : ℕ) (ns : List ℕ) → ((i : ℕ) → i < length ns → get_or ns i 0 < 10 ^ suc k) → length (all_spaced ns) ≤ suc (suc k) * length ns
numbers_short k [] h = omega arith
numbers_short k (n ∷ ns) h =
    rw length-append
    (omega (arith, length_decimal k n (h 0 (omega arith)), numbers_short k ns (λ i l. h (suc i) (omega arith))))

row_short : (links i : ℕ) (r : Row) → links ≤ most_links → i < 1000 → RowInLimits links r → length (row_line i r) ≤ 330
row_short links i r m h w =
    omega (
      arith,
      simp length-append at (ap length (row_parts i r)),
      ap (λ (ns : List ℕ). length (all_spaced ns)) (map-id r.links),
      numbers_short 2 r.links (λ j l. omega (arith, w.numbers j l)),
      length_decimal 2 i (omega arith),
      length_decimal 9 r.rate (omega arith),
      length_decimal 9 r.first (omega arith),
      length_decimal 9 r.departures (omega arith),
    )

rows_short : (links k : ℕ) (rs : List Row) → links ≤ most_links → k + length rs ≤ 1000 → ((i : ℕ) → i < length rs → RowInLimits links (get_or rs i past_row))
    → length (row_lines k rs) ≤ 330 * length rs
rows_short links k rs m h w = numbered_short row_line past_row 330 k rs (λ i l. row_short links (k + i) (get_or rs i past_row) m (omega arith) (w i l))

cut_short : (π : List ℕ) (b : ℕ) → length π ≤ most_places → ((v : ℕ) → v < length π → get_or π v 0 ≤ most_cut_number) → b < 10 ^ 20 → length (cut_line π b) ≤ 800
cut_short π b h w l =
    omega (
      arith,
      simp length-append at (ap length (cut_parts π b)),
      ap (λ (ns : List ℕ). length (all_spaced ns)) (map-id π),
      numbers_short 9 π (λ v g. omega (arith, w v g)),
      length_decimal 19 b l,
    )

verdict_short : (v : ℕ) → v < 10 ^ 10 → length (verdict_line v) ≤ 19
unfolding verdict_line
verdict_short v h = simp length-append (omega (arith, length_decimal 9 v h))

amount_short : (amount horizon : ℕ) → amount ≤ most_amount → horizon ≤ longest_plan_horizon → length (amount_line amount horizon) ≤ 40
unfolding amount_line
amount_short amount horizon h g =
    simp length-append (omega (arith, length_decimal 9 amount (omega arith), length_decimal 9 horizon (omega arith)))

pub plan_short : (places links v b : ℕ) (p : Plan) → places ≤ most_places → links ≤ most_links → v < 10 ^ 10 → b < 10 ^ 20 → InLimits places links p
    → length (plan_text v b p) ≤ text_most
unfolding plan_text plan_body plan_tail
plan_short places links v b p n m h l w =
    simp length-append
    (omega (
      arith,
      verdict_short v h,
      amount_short p.amount p.horizon w.amount.high w.horizon.high,
      rows_short links 0 p.rows m (omega arith) w.rows,
      cut_short p.cut b (omega arith) w.cut l,
    ))
