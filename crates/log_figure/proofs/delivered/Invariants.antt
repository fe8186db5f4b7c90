-- `delivered` meets its contract: the entries passed are counted, and all of them are what the definition sums. Assumes nothing.
use Rattle.log_figure.proofs.Counting.{Counting}
use Rattle.log_figure.proofs.delivered.Given as goal

abbrev pub invariant-loop-entry : goal.invariant-loop-entry
invariant-loop-entry l = Counting l.network l.entries l.v l.k l.arrived l.left l.entry-index
