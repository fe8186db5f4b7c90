-- No entry passed has brought its link above its capacity. Assumes nothing.
use Rattle.log_loads.proofs.Takings.{Taking}
use Rattle.log_loads.proofs.overfull.Given as goal

abbrev pub invariant-loop-entry : goal.invariant-loop-entry
invariant-loop-entry l = Taking l.network l.entries l.taken l.slot l.entry-index
