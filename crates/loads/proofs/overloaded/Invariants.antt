-- `loads::overloaded` meets its contract. The loop's invariant: no link passed has a use that is over. That some use is over is that some slot
-- is. Assumes nothing.
use Rattle.row_uses.specs.Files.{lent_of}
use Rattle.loads.specs.Passed.{NoneBelow}
use Rattle.loads.proofs.overloaded.Given as goal

abbrev pub invariant-loop-e : goal.invariant-loop-e
invariant-loop-e l = NoneBelow (lent_of l.filed.uses) l.network.links l.filed.head.now l.e
