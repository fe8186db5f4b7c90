-- `Graph::new` puts the links into chains by their starts and by their ends. Assumes nothing.
use native.Mathlib.Omega.{arith}
use Rattle.network.proofs.Links.{links_few}
use Rattle.residual.specs.declared.Direction.TheVariants.{Along, Against}
use Rattle.adjacency.proofs.Indexed.{chainable, indexed}
use Rattle.adjacency.proofs.Graph.new.Goals as goal

pub links-links-requires : goal.links-links-requires
links-links-requires c = omega (arith, links_few c.args.network.now c.requires)

pub chain_links-out-requires : goal.chain_links-out-requires
chain_links-out-requires c = chainable c.args.network.now c.requires Along c.links-links.result.now c.links-links.ensures

pub chain_links-into-requires : goal.chain_links-into-requires
chain_links-into-requires c = chainable c.args.network.now c.requires Against c.links-links.result.now c.links-links.ensures

pub invariant_of-result : goal.invariant_of-result
invariant_of-result c = record {
  formed = c.requires;
  indexed =
      indexed c.args.network.now c.requires c.links-links.result.now c.links-links.ensures c.chain_links-out.result c.chain_links-into.result
      c.chain_links-out.ensures c.chain_links-into.ensures;
}
