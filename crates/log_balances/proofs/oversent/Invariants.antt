-- `oversent` meets its contract: no place passed fails. Assumes nothing.
use Rattle.log_balances.proofs.Sending.{Passed}
use Rattle.log_balances.proofs.oversent.Given as goal

abbrev pub invariant-loop-v : goal.invariant-loop-v
invariant-loop-v l = Passed l.log.network.now l.log.entries.now l.firsts l.v
