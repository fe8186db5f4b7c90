-- `with_capacities` meets its contract: one number is stored a turn. Assumes nothing.
use mathlib.Core.Path.{refl}
use native.Mathlib.Omega.{arith}
use borrow.Author.Rules.{rules}
use Rattle.network_columns.specs.Columns.{of_capacity}
use Rattle.network_columns.proofs.Storing.{stored_none, stored_next, capacities_stored}
use Rattle.network_columns.proofs.with_capacities.Goals as goal

pub loop-i-init : goal.loop-i-init
loop-i-init c = stored_none of_capacity _ _ (search rules)

pub loop-i-preserved : goal.loop-i-preserved
loop-i-preserved c = stored_next of_capacity _ _ _ _ _ c.loop-i.invariant (omega arith) refl

pub returns : goal.returns
returns c = capacities_stored _ _ _ _ c.loop-i-test.false c.loop-i.invariant
