-- `read_number` meets its contract: the number at the position is what the groups read so far and those from `next` on make, and each
-- return is one of the ways on from there. Assumes nothing.
use Prim.Native.Nat.{◌-◌}
use Rattle.numbers.specs.Leb128.{groups}
use Rattle.numbers.proofs.Continued.{Continues}
use Rattle.numbers.proofs.read_number.Given as goal

abbrev pub invariant-loop : goal.invariant-loop
invariant-loop l = Continues groups l.s l.at l.value l.weight l.next (groups - l.counter)
