-- A plan that is its own certificate: within the record's limits, with verdict 0 and simple rows, and so of the least horizon.
use Rattle.std.specs.Prelude.{◌≡◌, ℕ}
use Rattle.flows.specs.Network.{Network, count}
use Rattle.flows.specs.Flow.{Least}
use Rattle.flows.specs.Plan.{Plan, verdict}
use Rattle.plans.specs.declared.Plan as struct
use Rattle.plans.specs.InLimits.{InLimits}
use Rattle.plans.specs.Held.{model_of}
use Rattle.plans.specs.WritablePlan.{Countable}
use Rattle.statics.specs.Reach.{SimpleRows}

pub record Made (N : Network) (amount : ℕ) (p : Plan) : Type 0 where
  pub amount_kept : p.amount ≡ amount
  pub limits : InLimits N.places (count N) p
  pub passes : verdict N p ≡ 0
  pub simple : SimpleRows N p.rows
  pub least : Least N amount p.horizon

-- the plan that a struct holds
pub record MadeOf (N : Network) (places amount : ℕ) (plan : struct.Plan) : Type 0 where
  pub countable : Countable plan
  pub made : Made N amount (model_of places plan)
