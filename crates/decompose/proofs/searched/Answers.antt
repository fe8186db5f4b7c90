-- `decompose::searched` meets its contract: the flow has a value, so the search finds a route. Assumes nothing.
use mathlib.Core.Path.{◌≡◌, subst, subst⁻¹}
use native.Mathlib.Omega.{arith}
use borrow.Author.Rules.{rules}
use lib.ListN.{length}
use Rattle.limits.specs.Limits.{most_links}
use Rattle.flows.specs.Network.{Network, WellFormed}
use Rattle.network.specs.Held.{model_of}
use Rattle.network.proofs.Links.{links_few}
use Rattle.residual.specs.Index.{Indexed}
use Rattle.routes.specs.Route.{FoundRoute}
use Rattle.network_columns.specs.Columns.{with_capacities}
use Rattle.decompose.proofs.Shape.{indexed_with}
use Rattle.decompose.proofs.Found.{with_well_formed, found, found_some}
use Rattle.decompose.proofs.searched.Goals as goal
use Rattle.decompose.proofs.searched.Goals.{After-find}

pub with_capacities-requires : goal.with_capacities-requires
with_capacities-requires c =
    let size : length c.args.left.now ≡ most_links = search rules in
    let few = links_few _ c.args.graph.now.formed in
    (few, omega (arith, few))

pub invariant_of-rest : goal.invariant_of-rest
invariant_of-rest c =
    let graph = c.args.graph.now in
    record {
      formed = subst⁻¹ WellFormed c.with_capacities.ensures (with_well_formed graph.formed c.requires.static);
      indexed = subst⁻¹ (λ (N : Network). Indexed N graph.index) c.with_capacities.ensures (indexed_with _ _ graph.index graph.indexed);
    }

-- what the search found, of the network with the blocks for capacities
finds : (c : After-find) → FoundRoute (with_capacities (model_of c.args.graph.now.network) c.args.left.now) c.find.result
finds c = subst (λ (N : Network). FoundRoute N c.find.result) c.with_capacities.ensures c.find.ensures

pub unreachable-requires : goal.unreachable-requires
unreachable-requires c =
    found_some c.args.graph.now.formed c.requires.static c.requires.some
    (subst (FoundRoute _) c.in-None.is (finds (goal.at.unreachable-requires c).After-find))

pub returns : goal.returns
returns c =
    found _ c.args.left.now c.in-Some.route
    (subst (FoundRoute _) c.in-Some.is (finds (goal.at.returns c).After-find))
