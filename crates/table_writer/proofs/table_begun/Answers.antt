-- `table_begun` stores the first four numbers at the front of zeros. Assumes nothing.
use mathlib.Core.Path.{refl}
use Prim.Native.Nat.{ℕ}
use native.Mathlib.Omega.{arith}
use lib.ListN.{length-replicate}
use Rattle.table_writer.proofs.Front.{front_none}
use Rattle.table_writer.proofs.table_begun.Goals as goal

pub returns : goal.returns
returns c = front_none _ _ _ refl (omega (arith, length-replicate {A = ℕ} 1028 0))
