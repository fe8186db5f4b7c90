-- `hinted_route::carries` meets its contract: while it goes on, the links from the i-th on are met, and where it stands at the origin these
-- are all. Assumes nothing.
use Rattle.hinted_route.proofs.Backward.{Looking}
use Rattle.hinted_route.proofs.carries.Given as goal

abbrev pub invariant-loop-i : goal.invariant-loop-i
invariant-loop-i l = Looking l.network l.left l.proposal.links l.count l.seen l.place l.i
