-- While blocks are owed the flow that is left has a value, which falls in each turn. Assumes nothing.
use Rattle.std.proofs.Common.{[]}
use Rattle.network.specs.Held.{model_of}
use Rattle.decompose.proofs.Planning.{plan_of, Planning}
use Rattle.decompose.proofs.fill.Given as goal

abbrev pub invariant-loop-owed : goal.invariant-loop-owed
invariant-loop-owed l =
    Planning (model_of l.graph.network) l.initial.left l.amount l.slots (plan_of l.amount 0 [] l.rows) l.count l.left l.carried l.owed

abbrev pub decreases-loop-owed : goal.decreases-loop-owed
decreases-loop-owed l = l.carried
