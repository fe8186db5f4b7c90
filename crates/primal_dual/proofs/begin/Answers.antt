-- `begin` meets its contract: no flow can be stepped from, the step leaves what steps may begin with, and so does a proposal that passes
-- both tests. Assumes nothing.
use native.Mathlib.Omega.{arith}
use Rattle.network.specs.Held.{model_of}
use Rattle.states.proofs.Held.{destination_place}
use Rattle.states.proofs.Steps.{searchable}
use Rattle.primal_dual.proofs.Steps.{zero_steppable}
use Rattle.primal_dual.proofs.begin.Goals as goal

pub search-tree-requires : goal.search-tree-requires
search-tree-requires c = (searchable (zero_steppable c.args.graph.now.formed c.requires c.begin-zero.ensures), c.args.graph.now.indexed)

pub advance-first-requires : goal.advance-first-requires
advance-first-requires c =
    record { steppable = zero_steppable c.args.graph.now.formed c.requires c.begin-zero.ensures; searched = c.search-tree.ensures }

pub bounds-proposed-destination : goal.bounds-proposed-destination
bounds-proposed-destination c = omega (arith, destination_place _ c.args.graph.now.formed)

pub returns-then-proposed-destination : goal.returns-then-proposed-destination
unfolding model_of
returns-then-proposed-destination c = record { sound = c.accepts.ensures c.if-accepts.true; below = c.if-proposed-destination.true }
