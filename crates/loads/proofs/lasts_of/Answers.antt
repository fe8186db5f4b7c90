-- `loads::lasts_of` meets its contract. The loop's invariant: the rows passed have their last slots. Assumes nothing.
use Prim.Native.Nat.{ℕ}
use native.Mathlib.Omega.{arith}
use lib.ListN.{length-replicate}
use Rattle.flows.proofs.Lists.{get_or_zeros}
use Rattle.loads.proofs.lasts_of.Goals as goal

pub loop-i-init : goal.loop-i-init
loop-i-init c = record {
  size = length-replicate {A = ℕ} 257 0;
  small = λ j. omega (arith, get_or_zeros 257 j);
  are = λ j h. absurd (omega arith);
}
