-- `step` hands the search what it asks for, and its tree to `advance`. Assumes nothing.
use Rattle.states.proofs.Steps.{searchable}
use Rattle.primal_dual.proofs.step.Goals as goal

pub search-tree-requires : goal.search-tree-requires
search-tree-requires c = (searchable c.requires, c.args.graph.now.indexed)
