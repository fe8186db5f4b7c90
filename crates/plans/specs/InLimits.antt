-- "Plan record": the limits of each number of a plan, for a network with these numbers of places and links.
use Rattle.std.specs.Prelude.{◌≡◌, [], ℕ, ◌≤◌, ◌<◌, length, get_or}
use Rattle.limits.specs.Limits.{least_amount, most_amount, least_plan_horizon, fewest_rows, most_rows, fewest_row_links, most_row_links, longest_length, least_rate, most_rate, least_departures, longest_plan_horizon, most_cut_number, latest_first, most_departures}
use Rattle.flows.specs.Rows.{Row}
use Rattle.flows.specs.Plan.{Plan}

-- a number from low to high
pub record Within (lo hi n : ℕ) : Type 0 where
  pub low : lo ≤ n
  pub high : n ≤ hi

-- what stands past the end of a list of rows
abbrev pub past_row : Row
past_row = record { links = []; length = 0; rate = 0; first = 0; departures = 0 }

pub record RowInLimits (links : ℕ) (r : Row) : Type 0 where
  pub count : Within fewest_row_links most_row_links (length r.links)
  pub numbers : (i : ℕ) → i < length r.links → get_or r.links i 0 < links
  pub long : r.length ≤ longest_length
  pub rate : Within least_rate most_rate r.rate
  pub first : r.first ≤ latest_first
  pub departures : Within least_departures most_departures r.departures

pub record InLimits (places links : ℕ) (p : Plan) : Type 0 where
  pub amount : Within least_amount most_amount p.amount
  pub horizon : Within least_plan_horizon longest_plan_horizon p.horizon
  pub one_per_place : length p.cut ≡ places
  pub cut : (v : ℕ) → v < length p.cut → get_or p.cut v 0 ≤ most_cut_number
  pub count : Within fewest_rows most_rows (length p.rows)
  pub rows : (i : ℕ) → i < length p.rows → RowInLimits links (get_or p.rows i past_row)
