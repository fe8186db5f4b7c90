-- `due` meets its contract: what the entries passed bring to the place is filed under the entry at which it is due. Assumes nothing.
use Rattle.log_balances.proofs.Sending.{Filling}
use Rattle.log_balances.proofs.due.Given as goal

abbrev pub invariant-loop-i : goal.invariant-loop-i
invariant-loop-i l = Filling l.v l.network l.entries l.firsts l.due l.i
