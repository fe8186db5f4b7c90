-- `begin` meets its contract: a network that was read is well formed, and its first search is of no flow. Assumes nothing.
use mathlib.Core.Path.{sym, ◌∙◌}
use Rattle.network.proofs.Answers.{was_read}
use Rattle.network_planner.proofs.First.{first_searchable, first_searched}
use Rattle.hint_probe.proofs.begin.Goals as goal

pub new-graph-requires : goal.new-graph-requires
new-graph-requires c = (was_read _ _ (sym c.in-Ok.is ∙ c.read.ensures)).well_formed

pub search-tree-requires : goal.search-tree-requires
search-tree-requires c = (first_searchable c.new-graph.result.formed c.begin-start.ensures, c.new-graph.result.indexed)

pub returns : goal.returns
returns c = first_searched c.new-graph.result.formed c.begin-start.ensures c.search-tree.ensures
