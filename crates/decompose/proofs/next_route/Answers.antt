-- `decompose::next_route` meets its contract: a hint that passed its test is a route over the blocks that are left. Assumes nothing.
use mathlib.Core.Path.{subst}
use Rattle.hinted_route.specs.Remaining.{HintedRoute}
use Rattle.decompose.proofs.Found.{found_hinted}
use Rattle.decompose.proofs.next_route.Goals as goal

pub returns-in-Some : goal.returns-in-Some
returns-in-Some c =
    found_hinted c.args.graph.now.network c.args.left.now c.in-Some.route
    (subst (HintedRoute c.args.graph.now.network c.args.left.now) c.in-Some.is c.hinted.ensures)
