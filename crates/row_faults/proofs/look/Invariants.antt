-- `row_faults::look` meets its contract. The loop's invariant: the rows passed are filed, and what is seen is what they show. Assumes nothing.
use mathlib.Core.Path.{◌≡◌}
use mathlib.Core.List.{List}
use Prim.Native.Nat.{ℕ, ◌*◌, ◌≤◌}
use Rattle.limits.specs.Limits.{most_rate, most_departures}
use Rattle.flows.specs.Rows.{all_uses}
use Rattle.network.specs.declared.Network.{Network}
use Rattle.network.specs.Held.{model_of}
use Rattle.plans.specs.declared.Plan.{Plan}
use Rattle.plans.specs.Held.{rows_below}
use Rattle.row_uses.specs.Files.{columns_of}
use Rattle.row_uses.specs.Uses.{Columns, Filed}
use Rattle.row_tests.specs.declared.Seen.{Seen}
use Rattle.row_tests.specs.Seen.{seen_of}
use Rattle.row_faults.proofs.look.Given as goal

-- the rows below i are filed and seen
pub record Looking (net : Network) (plan : Plan) (c : Columns) (head : List ℕ) (seen : Seen) (i : ℕ) : Type 0 where
  pub filed : Filed c head (63 * i) (all_uses (model_of net) (rows_below plan i))
  pub seen-is : seen ≡ seen_of (model_of net) plan.horizon (rows_below plan i)
  pub total-most : seen.total ≤ most_rate * most_departures * i

abbrev pub invariant-loop-i : goal.invariant-loop-i
invariant-loop-i g l = Looking l.network l.plan (columns_of l.file) l.file.head l.seen l.i
