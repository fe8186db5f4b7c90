-- What the tests of a plan ask of the structs that hold a network and a plan: reading gives no others.
use Rattle.std.specs.Prelude.{◌≡◌, List, ℕ, ◌≤◌, ◌<◌, length, get_or}
use Rattle.limits.specs.Limits.{most_row_links, most_rate, latest_first, most_departures}
use Rattle.flows.specs.declared.Link.{Link}
use Rattle.flows.specs.Network.{WellFormed}
use Rattle.network.specs.declared.Network.{Network}
use Rattle.network.specs.Held as network
use Rattle.plans.specs.declared.Row.{Row}
use Rattle.plans.specs.declared.Plan.{Plan}
use Rattle.plans.specs.Held as plans
use Rattle.plans.specs.InLimits.{InLimits}
use Rattle.durations.specs.Lasting.{Timed}

-- the links of a row stand in its array
pub record Stands (r : Row) : Type 0 where
  pub size : r.count ≤ most_row_links
  pub full : length r.links ≡ most_row_links

-- a network and a plan for it, each within document 01's limits
pub record Given (net : Network) (plan : Plan) : Type 0 where
  pub well_formed : WellFormed (network.model_of net)
  pub in_limits : InLimits net.places net.count (plans.model_of net.places plan)
  pub stands : (i : ℕ) → i < plan.count → Stands (get_or plan.rows i plans.past)

-- a row of the plan
pub record GivenRow (net : Network) (r : Row) : Type 0 where
  pub well_formed : WellFormed (network.model_of net)
  pub stands : Stands r
  pub known : (j : ℕ) → j < r.count → get_or r.links j 0 < net.count
  pub rate : r.rate ≤ most_rate
  pub first : r.first ≤ latest_first
  pub departures : r.departures ≤ most_departures

-- what of it is known by an array of links alone
pub record Lookable (links : List Link) (r : Row) : Type 0 where
  pub stands : Stands r
  pub timed : Timed links r.links r.count
  pub rate : r.rate ≤ most_rate
  pub first : r.first ≤ latest_first
  pub departures : r.departures ≤ most_departures
