-- `with_transits` meets its contract: one number is stored a turn. Assumes nothing.
use mathlib.Core.Path.{refl}
use native.Mathlib.Omega.{arith}
use borrow.Author.Rules.{rules}
use Rattle.network_columns.specs.Columns.{of_transit}
use Rattle.network_columns.proofs.Storing.{stored_none, stored_next, transits_stored}
use Rattle.network_columns.proofs.with_transits.Goals as goal

pub loop-i-init : goal.loop-i-init
loop-i-init c = stored_none of_transit _ _ (search rules)

pub loop-i-preserved : goal.loop-i-preserved
loop-i-preserved c = stored_next of_transit _ _ _ _ _ c.loop-i.invariant (omega arith) refl

pub returns : goal.returns
returns c = transits_stored _ _ _ _ c.loop-i-test.false c.loop-i.invariant
