-- A plan's struct read off field by field in the order of the plan record: "amount; T ..; the cut for T - 1, one number per place ..; the
-- number of rows; then each row: number of links, the link numbers", "its length", "rate, first slot .., departures". A struct holds a plan
-- as it must where these are the plan's numbers.
use Rattle.std.specs.Prelude.{◌≡◌, List, [], ◌∷◌, ◌++◌, ℕ, ◌<◌, length, get_or, take}
use Rattle.limits.specs.Limits.{most_rows, most_row_links}
use Rattle.plans.specs.declared.Row.{Row}
use Rattle.plans.specs.declared.Plan.{Plan}
use Rattle.plans.specs.Held.{past}

abbrev pub row_fields : Row → List ℕ
row_fields r = r.count ∷ (take r.count r.links ++ (r.length ∷ r.rate ∷ r.first ∷ r.departures ∷ []))

abbrev pub rows_fields : List Row → List ℕ
rows_fields [] = []
rows_fields (r ∷ rs) = row_fields r ++ rows_fields rs

abbrev pub fields_of : ℕ → Plan → List ℕ
fields_of places plan =
    plan.amount ∷ plan.horizon ∷ (take places plan.cut ++ (plan.count ∷ rows_fields (take plan.count plan.rows)))

-- the array of rows, and in each row of the plan that of its links, are as long as their types say
pub record Arrays (plan : Plan) : Type 0 where
  pub rows : length plan.rows ≡ most_rows
  pub links : (i : ℕ) → i < plan.count → length (get_or plan.rows i past).links ≡ most_row_links
