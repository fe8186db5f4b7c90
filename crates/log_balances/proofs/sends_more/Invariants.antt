-- `sends_more` meets its contract: what was due and what was sent up to the entries passed, and by none of them more was sent. Assumes nothing.
use Rattle.log_balances.proofs.Sending.{Weighing}
use Rattle.log_balances.proofs.sends_more.Given as goal

abbrev pub invariant-loop-i : goal.invariant-loop-i
invariant-loop-i l = Weighing l.v l.network l.entries l.due l.arrived l.left l.i
