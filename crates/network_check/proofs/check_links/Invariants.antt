-- `check_links` meets its contract: the links before the loop's passed, so those from it on decide. Assumes nothing.
use Rattle.network_check.proofs.Checking.{Checked}
use Rattle.network_check.proofs.check_links.Given as goal

abbrev pub invariant-loop-link : goal.invariant-loop-link
invariant-loop-link l = Checked l.places l.links l.link-index
