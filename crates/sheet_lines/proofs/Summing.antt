-- The sum of a plan's rows, row by row: 64 bits hold it, as there are few rows and each brings few blocks. Assumes nothing.
use mathlib.Core.Path.{◌≡◌}
use Prim.Native.Nat.{ℕ, ◌+◌, ◌*◌, ◌≤◌, ◌<◌}
use native.Mathlib.Omega.{arith}
use native.Mathlib.Numerals.{add-one}
use lib.ListN.{get_or}
use Rattle.limits.specs.Limits.{most_rate, most_departures}
use Rattle.flows.specs.Rows as rows
use Rattle.flows.proofs.Rows.{total_more}
use Rattle.plans.specs.declared.Plan.{Plan}
use Rattle.plans.specs.Held.{row_of, past, rows_below}

-- the rows below i are summed
pub record Summed (plan : Plan) (sum i : ℕ) : Type 0 where
  pub within : i ≤ plan.count
  pub is : sum ≡ rows.total (rows_below plan i)
  pub most : sum ≤ most_rate * most_departures * i

module _ (plan : Plan) where
  pub summed_more : (sum i blocks : ℕ) → i < plan.count → Summed plan sum i
      → (blocks ≡ (get_or plan.rows i past).rate * (get_or plan.rows i past).departures) × (blocks ≤ most_rate * most_departures)
      → Summed plan (sum + blocks) (i + 1)
  summed_more sum i blocks h s b = record {
    within = omega arith;
    is = rw add-one (omega (arith, s.is, b.0, total_more (rows_below plan i) (row_of (get_or plan.rows i past))));
    most = omega (arith, s.most, b.1);
  }
