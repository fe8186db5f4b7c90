-- `stilled` builds a graph: the network stays well formed and indexed. Assumes nothing.
use Rattle.routes.proofs.Still.{formed_still, indexed_still}
use Rattle.routes.proofs.finding.stilled.Goals as goal

pub invariant_of-result : goal.invariant_of-result
invariant_of-result c =
    let graph = c.args.graph.now in
    record {
      formed = formed_still graph.network c.without_transits.result c.without_transits.ensures graph.formed;
      indexed = indexed_still graph.network c.without_transits.result c.without_transits.ensures graph.index graph.indexed;
    }
