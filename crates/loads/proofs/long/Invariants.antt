-- `loads::long` meets its contract, which asks only that it is safe. The loop's invariant: the chain does not rise. Assumes nothing.
use Prim.Native.Nat.{◌≤◌}
use Rattle.loads.proofs.long.Given as goal

abbrev pub invariant-loop : goal.invariant-loop
invariant-loop l = l.k ≤ l.start
