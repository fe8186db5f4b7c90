-- Of the 37,789 octets of a plan record 36,246 are its numbers from the amount on: those of a plan within the limits have at most the
-- longest one's length, since no number has more octets than its limit; so have those of a plan that is read. Assumes nothing.
use mathlib.Core.Path.{◌≡◌, refl, ap}
use mathlib.Core.List.{List, [], ◌∷◌, ◌++◌}
use Prim.Native.Nat.{ℕ, suc, ◌-◌, ◌*◌, ◌≤◌, ◌<◌}
use native.Mathlib.Nat.{mul-le-mul}
use native.Mathlib.Omega.{arith}
use lib.ListN.{length, get_or}
use Rattle.limits.specs.Limits.{most_places, most_links, most_amount, longest_plan_horizon, most_cut_number, most_rows, most_row_links, longest_length, most_rate, latest_first, most_departures}
use Rattle.numbers.specs.Leb128.{Octets, shortest, encode}
use Rattle.numbers.specs.Field.{accepted}
use Rattle.numbers.specs.Writing.{width}
use Rattle.numbers.proofs.Stages.{length_encode}
use Rattle.numbers.proofs.Widths.{width_most, widths_none, widths_cons, widths_most}
use Rattle.flows.specs.Rows.{Row}
use Rattle.flows.specs.Plan.{Plan}
use Rattle.plans.specs.Record.{read_plan, row_numbers, rows_numbers, record_of}
use Rattle.plans.specs.InLimits.{RowInLimits, InLimits, past_row}
use Rattle.plans.specs.Longest.{longest_row, longest_plan_record}
use Rattle.plans.proofs.Parts.{plan_in_limits}
use Rattle.plans.proofs.RoundTrip.{plan_written}

pub longest_plan_record_lem : longest_plan_record ≡ 36246
unfolding longest_plan_record longest_row width shortest
longest_plan_record_lem = refl

row_short : (links : ℕ) (r : Row) → links ≤ most_links → RowInLimits links r → length (encode (row_numbers r)) ≤ longest_row
unfolding longest_row
row_short links r m w =
    omega (
      arith,
      widths_cons (length r.links) (r.links ++ (r.length ∷ r.rate ∷ r.first ∷ r.departures ∷ [])),
      length_encode r.links (r.length ∷ r.rate ∷ r.first ∷ r.departures ∷ []),
      widths_cons r.length (r.rate ∷ r.first ∷ r.departures ∷ []),
      widths_cons r.rate (r.first ∷ r.departures ∷ []),
      widths_cons r.first (r.departures ∷ []),
      widths_cons r.departures [],
      widths_none,
      width_most (length r.links) most_row_links w.count.high,
      widths_most most_row_links (most_links - 1) r.links w.count.high (λ i l. omega (arith, w.numbers i l)),
      width_most r.length longest_length w.long,
      width_most r.rate most_rate w.rate.high,
      width_most r.first latest_first w.first,
      width_most r.departures most_departures w.departures.high,
    )

rows_short : (links : ℕ) (rs : List Row) → links ≤ most_links → ((i : ℕ) → i < length rs → RowInLimits links (get_or rs i past_row))
    → length (encode (rows_numbers rs)) ≤ length rs * longest_row
rows_short links [] m w = omega (arith, widths_none)
rows_short links (r ∷ rs) m w =
    omega (
      arith,
      length_encode (row_numbers r) (rows_numbers rs),
      row_short links r m (w 0 (omega arith)),
      rows_short links rs m (λ i l. w (suc i) (omega arith)),
    )

pub record_short : (places links : ℕ) (p : Plan) → places ≤ most_places → links ≤ most_links → InLimits places links p → length (record_of p) ≤ longest_plan_record
unfolding record_of longest_plan_record
record_short places links p n m w =
    let rows : length p.rows * longest_row ≤ most_rows * longest_row = mul-le-mul w.count.high (omega arith) in
    omega (
      arith,
      widths_cons p.amount (p.horizon ∷ (p.cut ++ (length p.rows ∷ rows_numbers p.rows))),
      widths_cons p.horizon (p.cut ++ (length p.rows ∷ rows_numbers p.rows)),
      length_encode p.cut (length p.rows ∷ rows_numbers p.rows),
      widths_cons (length p.rows) (rows_numbers p.rows),
      width_most p.amount most_amount w.amount.high,
      width_most p.horizon longest_plan_horizon w.horizon.high,
      widths_most most_places most_cut_number p.cut (omega (arith, w.one_per_place)) w.cut,
      width_most (length p.rows) most_rows w.count.high,
      rows_short links p.rows m w.rows,
    )

pub read_short : (places links : ℕ) (s : List ℕ) (p : Plan) (rest : List ℕ) → places ≤ most_places → 1 ≤ links → links ≤ most_links → Octets s
    → read_plan places links s ≡ accepted p rest → length s ≤ longest_plan_record
read_short places links s p rest n l m o h =
    omega (
      arith,
      ap length (plan_written places links s p rest o h),
      record_short places links p n m (plan_in_limits places links s p rest l h),
    )
