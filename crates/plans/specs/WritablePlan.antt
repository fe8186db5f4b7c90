-- What writing asks of a plan's struct.
use Rattle.std.specs.Prelude.{List, ℕ, ◌+◌, ◌≤◌, ◌<◌, length, get_or}
use Rattle.limits.specs.Limits.{most_places, most_links, most_rows, most_row_links}
use Rattle.plans.specs.declared.Plan.{Plan}
use Rattle.plans.specs.Record.{record_of}
use Rattle.plans.specs.Held.{past, model_of}
use Rattle.plans.specs.InLimits.{InLimits}

-- the struct counts no more rows, and no more links of a row, than its arrays hold
pub record Countable (plan : Plan) : Type 0 where
  pub count : plan.count ≤ most_rows
  pub links : (i : ℕ) → i < plan.count → (get_or plan.rows i past).count ≤ most_row_links

-- a plan within its limits, and room for its numbers from a position on
pub record WritablePlan (places : ℕ) (plan : Plan) (buffer : List ℕ) (start : ℕ) : Type 0 where
  pub few : places ≤ most_places
  pub countable : Countable plan
  pub limits : InLimits places most_links (model_of places plan)
  pub room : start + length (record_of (model_of places plan)) ≤ length buffer
