-- `table_of` stores the four numbers of one link in a turn, at the table's seam. Assumes nothing.
use mathlib.Core.Path.{◌≡◌}
use Prim.Native.Nat.{◌≤◌}
use lib.ListN.{replicate}
use Rattle.numbers.specs.Leb128.{over}
use Rattle.table_writer.specs.Front.{front}
use Rattle.table_writer.proofs.table_of.Given as goal

abbrev pub invariant-loop-e : goal.invariant-loop-e
invariant-loop-e l = (l.e ≤ 256) × (l.numbers ≡ over (front l.fn.network l.e) (replicate 1028 0))
