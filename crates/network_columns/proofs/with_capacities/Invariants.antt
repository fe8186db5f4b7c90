-- `with_capacities` meets its contract: one number is stored a turn. Assumes nothing.
use Rattle.network_columns.specs.Columns.{of_capacity}
use Rattle.network_columns.proofs.Storing.{Stored}
use Rattle.network_columns.proofs.with_capacities.Given as goal

abbrev pub invariant-loop-i : goal.invariant-loop-i
invariant-loop-i l = Stored of_capacity l.numbers l.initial.changed l.changed l.i
