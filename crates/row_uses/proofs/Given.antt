-- What the struct of a plan within the limits holds, number by number: each is the model's. Assumes nothing.
use mathlib.Core.Path.{◌≡◌}
use Prim.Native.Nat.{ℕ, ◌≤◌, ◌<◌}
use native.Mathlib.Omega.{arith}
use lib.ListN.{length, get_or, length-take}
use lib.Seq.{get_or-take}
use Rattle.network.specs.declared.Network.{Network}
use Rattle.plans.specs.declared.Row.{Row}
use Rattle.plans.specs.declared.Plan.{Plan}
use Rattle.plans.specs.Held as plans
use Rattle.plans.specs.InLimits.{RowInLimits}
use Rattle.plans.proofs.Model.{row_model, length_rows_model}
use Rattle.durations.proofs.Lasting.{timed}
use Rattle.row_uses.specs.Given.{Stands, Given, GivenRow, Lookable}

-- the array of a row's links begins with them
module _ (r : Row) (stands : Stands r) where
  pub links_length : length (plans.row_of r).links ≡ r.count
  links_length = omega (arith, length-take r.count r.links)

  pub links_at : (j : ℕ) → j < r.count → get_or (plans.row_of r).links j 0 ≡ get_or r.links j 0
  links_at j h = get_or-take r.count r.links j 0 h

module _ (net : Network) (plan : Plan) (given : Given net plan) where
  pub rows_few : plan.count ≤ 257
  rows_few = omega (arith, given.in_limits.count.high, length_rows_model net.places plan)

  row_in : (i : ℕ) → i < plan.count → RowInLimits net.count (plans.row_of (get_or plan.rows i plans.past))
  row_in i h =
      rw (row_model net.places plan i h) at
      (given.in_limits.rows i (omega (arith, length_rows_model net.places plan)))

  pub given_row : (i : ℕ) → i < plan.count → GivenRow net (get_or plan.rows i plans.past)
  given_row i h =
      let r : Row = get_or plan.rows i plans.past in
      let in_limits = row_in i h in
      record {
        well_formed = given.well_formed;
        stands = given.stands i h;
        known = λ j k. rw (links_at r (given.stands i h) j k) at (in_limits.numbers j (omega (arith, links_length r (given.stands i h))));
        rate = in_limits.rate.high;
        first = in_limits.first;
        departures = in_limits.departures.high;
      }

-- a row of a network can be looked at by the network's links
pub lookable : (net : Network) (r : Row) → GivenRow net r → Lookable net.links r
lookable net r given = record {
  stands = given.stands;
  timed = timed net given.well_formed r.links r.count given.stands.size given.known;
  rate = given.rate;
  first = given.first;
  departures = given.departures;
}
