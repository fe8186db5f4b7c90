-- `firsts` meets its contract: each entry passed has its first. Assumes nothing.
use Rattle.log_arrivals.proofs.Finding.{FirstsTo}
use Rattle.log_arrivals.proofs.firsts.Given as goal

abbrev pub invariant-loop-i : goal.invariant-loop-i
invariant-loop-i l = FirstsTo l.entries l.links l.first l.i
