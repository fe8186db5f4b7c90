-- What the sheet asks of a plan's struct, so that its sums have room: the rows, and of each the numbers that are multiplied, are within
-- document 01's limits.
use Rattle.std.specs.Prelude.{ℕ, ◌≤◌, ◌<◌, get_or}
use Rattle.limits.specs.Limits.{most_rows, most_rate, most_departures}
use Rattle.plans.specs.declared.Plan.{Plan}
use Rattle.plans.specs.Held.{past}

pub record Summable (plan : Plan) : Type 0 where
  pub count : plan.count ≤ most_rows
  pub rate : (i : ℕ) → i < plan.count → (get_or plan.rows i past).rate ≤ most_rate
  pub departures : (i : ℕ) → i < plan.count → (get_or plan.rows i past).departures ≤ most_departures
