-- `row_faults::rows_fault` meets its contract: the numbers lent have room for the plan's rows, few or many. Assumes nothing.
use Rattle.row_uses.proofs.Given.{rows_few}
use Rattle.row_faults.proofs.rows_fault.Goals as goal

pub fault_in-requires-2-clause-few : goal.fault_in-requires-2-clause-few
fault_in-requires-2-clause-few c = rows_few c.args.given.network.now c.args.given.plan.now c.args.given.given
