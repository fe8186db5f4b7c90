-- A plan within the record's limits is lawful: its limits have those on which the verdict leans. Assumes nothing.
use Prim.Native.Nat.{◌≤◌}
use Rattle.limits.specs.Limits.{least_rate, least_departures}
use Rattle.flows.specs.Network.{Network, count}
use Rattle.flows.specs.Plan.{Plan, Lawful}
use Rattle.flows.proofs.Lists.{all_of}
use Rattle.plans.specs.InLimits.{InLimits, past_row}

pub lawful : (N : Network) (p : Plan) → InLimits N.places (count N) p → Lawful N p
lawful N p l = record {
  rates = all_of (λ r. least_rate ≤ r.rate) p.rows past_row (λ i h. (l.rows i h).rate.low);
  departures = all_of (λ r. least_departures ≤ r.departures) p.rows past_row (λ i h. (l.rows i h).departures.low);
  horizon_least = l.horizon.low;
  cut_size = l.one_per_place;
}
