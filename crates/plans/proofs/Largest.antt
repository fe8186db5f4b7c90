-- No bound is idle: a plan with as many places, rows and links of a row as may be, each number at its limit, is within the limits, and its
-- numbers from the amount on are as long as `longestPlanRecord`. Assumes nothing.
use mathlib.Core.Path.{◌≡◌, refl, ap}
use mathlib.Core.List.{List, [], ◌∷◌, ◌++◌}
use Prim.Native.Nat.{ℕ, zero, suc, ◌-◌, ◌*◌, ◌≤◌, ◌<◌}
use native.Mathlib.Omega.{arith}
use lib.ListN.{length, get_or, replicate}
use Rattle.limits.specs.Limits.{most_places, most_links, most_amount, longest_plan_horizon, most_cut_number, most_rows, most_row_links, longest_length, most_rate, latest_first, most_departures}
use Rattle.numbers.specs.Leb128.{encode}
use Rattle.numbers.specs.Writing.{width}
use Rattle.numbers.proofs.Stages.{length_encode}
use Rattle.numbers.proofs.Widths.{widths_none, widths_cons}
use Rattle.flows.specs.Rows.{Row}
use Rattle.flows.specs.Plan.{Plan}
use Rattle.plans.specs.Record.{row_numbers, rows_numbers, record_of}
use Rattle.plans.specs.InLimits.{RowInLimits, InLimits, past_row}
use Rattle.plans.specs.Longest.{longest_row, longest_plan_record}

----- Lists of one and the same

-- an element, and the octets of all
pub same_element : {A : Type 0} (P : A → Type 0) (n : ℕ) (a d : A) (i : ℕ) → i < length (replicate n a) → P a → P (get_or (replicate n a) i d)
same_element P zero a d i h p = absurd (omega arith)
same_element P (suc n) a d zero h p = p
same_element P (suc n) a d (suc i) h p = same_element P n a d i (omega arith) p

widths_same : (n k : ℕ) → length (encode (replicate n k)) ≡ n * width k
widths_same zero k = omega (arith, widths_none)
widths_same (suc n) k = omega (arith, widths_cons k (replicate n k), widths_same n k)

rows_same : (n : ℕ) (r : Row) → length (encode (rows_numbers (replicate n r))) ≡ n * length (encode (row_numbers r))
rows_same zero r = omega (arith, widths_none)
rows_same (suc n) r = omega (arith, length_encode (row_numbers r) (rows_numbers (replicate n r)), rows_same n r)

----- The plan

abbrev largest_row : Row
largest_row = record {
  links = replicate most_row_links (most_links - 1);
  length = longest_length;
  rate = most_rate;
  first = latest_first;
  departures = most_departures;
}

abbrev pub largest_plan : Plan
largest_plan = record {
  amount = most_amount;
  horizon = longest_plan_horizon;
  cut = replicate most_places most_cut_number;
  rows = replicate most_rows largest_row;
}

row_in_limits : RowInLimits most_links largest_row
row_in_limits = record {
  count = record { low = omega arith; high = omega arith };
  numbers = λ i h. same_element (λ (n : ℕ). n < most_links) most_row_links (most_links - 1) 0 i h (omega arith);
  long = omega arith;
  rate = record { low = omega arith; high = omega arith };
  first = omega arith;
  departures = record { low = omega arith; high = omega arith };
}

pub largest_in_limits : InLimits most_places most_links largest_plan
largest_in_limits = record {
  amount = record { low = omega arith; high = omega arith };
  horizon = record { low = omega arith; high = omega arith };
  one_per_place = refl;
  cut = λ v h. same_element (λ (n : ℕ). n ≤ most_cut_number) most_places most_cut_number 0 v h (omega arith);
  count = record { low = omega arith; high = omega arith };
  rows = λ i h. same_element (RowInLimits most_links) most_rows largest_row past_row i h row_in_limits;
}

row_longest : length (encode (row_numbers largest_row)) ≡ longest_row
unfolding longest_row
row_longest =
    let rest : List ℕ = longest_length ∷ most_rate ∷ latest_first ∷ most_departures ∷ [] in
    omega (
      arith,
      widths_cons most_row_links (replicate most_row_links (most_links - 1) ++ rest),
      length_encode (replicate most_row_links (most_links - 1)) rest,
      widths_same most_row_links (most_links - 1),
      widths_cons longest_length (most_rate ∷ latest_first ∷ most_departures ∷ []),
      widths_cons most_rate (latest_first ∷ most_departures ∷ []),
      widths_cons latest_first (most_departures ∷ []),
      widths_cons most_departures [],
      widths_none,
    )

pub largest_longest : length (record_of largest_plan) ≡ longest_plan_record
unfolding record_of longest_plan_record
largest_longest =
    let rows : List ℕ = rows_numbers (replicate most_rows largest_row) in
    omega (
      arith,
      widths_cons most_amount (longest_plan_horizon ∷ (replicate most_places most_cut_number ++ (most_rows ∷ rows))),
      widths_cons longest_plan_horizon (replicate most_places most_cut_number ++ (most_rows ∷ rows)),
      length_encode (replicate most_places most_cut_number) (most_rows ∷ rows),
      widths_same most_places most_cut_number,
      widths_cons most_rows rows,
      rows_same most_rows largest_row,
      ap (λ (n : ℕ). most_rows * n) row_longest,
    )
