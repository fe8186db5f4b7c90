-- `row_chains::leads` meets its contract. The loop's invariant: the links from j on lead from the place reached to the destination
-- exactly where the row's links lead to it from the origin. Assumes nothing.
use mathlib.Core.Path.{◌≡◌}
use Prim.Native.Nat.{ℕ}
use lib.ListN.{drop}
use Rattle.flows.specs.Plan as model
use Rattle.network.specs.declared.Network.{Network}
use Rattle.network.specs.Held.{model_of}
use Rattle.plans.specs.declared.Row.{Row}
use Rattle.plans.specs.Held.{row_of}
use Rattle.row_uses.specs.Given.{GivenRow}
use Rattle.row_chains.specs.Chains.{Ends}
use Rattle.row_chains.proofs.leads.Given as goal

-- so for every network with the ends of the network that is lent
abbrev pub Leading : Network → Row → ℕ → ℕ → Type 0
Leading lent row at j =
    (net : Network) → Ends net lent.origin lent.destination lent.links → GivenRow net row
    → model.leads (model_of net) lent.origin lent.destination (row_of row).links ≡ model.leads (model_of net) at lent.destination (drop j (row_of row).links)

abbrev pub invariant-loop-number : goal.invariant-loop-number
invariant-loop-number l = Leading l.network l.row l.at l.number-index
