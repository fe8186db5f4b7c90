-- `read_number` meets its contract: the number at the position is what the groups read so far and those from `next` on make, and each
-- return is one of the ways on from there. Assumes nothing.
use mathlib.Core.Path.{◌≡◌}
use Prim.Native.Nat.{◌+◌, ◌-◌, ◌%◌}
use native.Mathlib.Omega.{arith}
use Rattle.numbers.specs.Leb128.{groups}
use Rattle.numbers.proofs.Continued.{continues_all, continues_endless, continues_ended, continues_weight, continues_room, continues_is, continues_padded, continues_zero, continues_more}
use Rattle.numbers.proofs.read_number.Goals as goal
use Rattle.numbers.proofs.read_number.Goals.{else-a-eq0-via-then-a-eq0+else-weight-gt1, else-a-eq0-via-else-a-eq0}

pub loop-init : goal.loop-init
loop-init c = continues_all groups _ _

pub returns-then-s-next : goal.returns-then-s-next
returns-then-s-next c = continues_ended c.loop.invariant (omega arith) (omega arith)

pub returns-then-weight-gt1 : goal.returns-then-weight-gt1
returns-then-weight-gt1 c =
    continues_padded c.loop.invariant (omega arith) (omega arith) c.from-a.result (c.from-a.ensures) (omega arith) (omega arith)

pub overflow_mul-result : goal.overflow_mul-result
overflow_mul-result c = omega (arith, continues_room c.loop.invariant (omega arith) c.from-a.result (omega arith))

pub overflow_add-result : goal.overflow_add-result
overflow_add-result c = omega (arith, continues_room c.loop.invariant (omega arith) c.from-a.result (omega arith))

pub returns-then-a-lt128 : goal.returns-then-a-lt128
returns-then-a-lt128 c = elim c.else-a-eq0.branch [
  | else-a-eq0-via-then-a-eq0+else-weight-gt1 w ↦
      continues_zero c.loop.invariant (omega arith) (omega arith) c.from-a.result (c.from-a.ensures) (omega arith) (omega arith)
  | else-a-eq0-via-else-a-eq0 w ↦
      continues_is c.loop.invariant (omega arith) (omega arith) c.from-a.result (c.from-a.ensures) (omega arith) (omega arith)
]

-- an octet's seven bits are below 128
pub overflow_mul-value : goal.overflow_mul-value
overflow_mul-value c = omega (arith, continues_room c.loop.invariant (omega arith) (c.from-a.result % 128) (omega arith))

pub overflow_add-value : goal.overflow_add-value
overflow_add-value c = omega (arith, continues_room c.loop.invariant (omega arith) (c.from-a.result % 128) (omega arith))

pub overflow_mul-weight : goal.overflow_mul-weight
overflow_mul-weight c = omega (arith, continues_weight c.loop.invariant (omega arith))

pub loop-preserved : goal.loop-preserved
loop-preserved c =
    let left : groups - (c.loop.counter + 1) ≡ groups - c.loop.counter - 1 = omega arith in
    rw left (continues_more c.loop.invariant (omega arith) (omega arith) c.from-a.result (c.from-a.ensures) (omega arith))

pub returns : goal.returns
returns c = continues_endless c.loop.invariant (omega arith)
