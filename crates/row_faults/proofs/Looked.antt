-- After the rows were looked at what is told of the uses filed is told of the plan. Assumes nothing.
use mathlib.Core.Path.{◌≡◌, refl}
use mathlib.Core.List.{List}
use Prim.Native.Nat.{ℕ, ◌*◌}
use Rattle.flows.specs.Rows.{all_uses}
use Rattle.network.specs.declared.Network.{Network}
use Rattle.network.specs.Held as network
use Rattle.plans.specs.declared.Plan.{Plan}
use Rattle.plans.specs.Held as plans
use Rattle.row_uses.specs.Uses.{Columns, Filed}
use Rattle.row_tests.specs.declared.Seen.{Seen}
use Rattle.row_tests.specs.Seen.{seen_of}
use Rattle.first_fault.specs.Faults.{rows_fault, TellsFault}

module _ (net : Network) (plan : Plan) (c : Columns) (head : List ℕ)
    (filed : Filed c head (63 * plan.count) (all_uses (network.model_of net) (plans.model_of net.places plan).rows)) where
  pub told : (seen : Seen) (r : ℕ) → TellsFault (network.model_of net) plan.amount seen c head r
      → seen ≡ seen_of (network.model_of net) plan.horizon (plans.model_of net.places plan).rows
      → r ≡ rows_fault (network.model_of net) (plans.model_of net.places plan)
  unfolding plans.model_of
  told seen r tells is = tells (63 * plan.count) (plans.model_of net.places plan) refl is filed
