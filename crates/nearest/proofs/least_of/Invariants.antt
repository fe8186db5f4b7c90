use Prim.Native.Nat.{◌+◌}
use Rattle.nearest.specs.Lowest.{Lowest}
use Rattle.nearest.proofs.least_of.Given as goal

abbrev pub invariant-loop-w : goal.invariant-loop-w
invariant-loop-w l = Lowest l.waiting (l.w-index + 1) l.least
