-- `row_chains::strays` meets its contract: it is what `leads` is not. Assumes nothing.
use Rattle.plans.specs.Held.{row_of}
use Rattle.row_chains.proofs.Chains.{stray_is}
use Rattle.row_chains.proofs.strays.Goals as goal

pub returns : goal.returns
returns c = λ net ends given. stray_is net ends (row_of c.args.row.now) _ (c.leads.ensures net ends given)
