-- `write_number` meets its contract: one group is stored, and the rest is written to the part after it; the number falls. Assumes nothing.
use Rattle.std.proofs.Common.{◌-◌, ap, arith, length, length-set, length-take, length-drop}
use Rattle.numbers.specs.Leb128.{groups}
use Rattle.numbers.proofs.Groups.{length_pos, shortest_cons}
use Rattle.numbers.proofs.Written.{wrote_last, wrote_more}
use Rattle.number_writer.proofs.+write_number.Goals as goal

pub bounds-part-0 : goal.bounds-part-0
bounds-part-0 t c = omega (arith, length_pos (groups - 1) c.args.n)

pub returns-then-n-lt128 : goal.returns-then-n-lt128
returns-then-n-lt128 t c = wrote_last _ _ c.if-n-lt128.true (omega (arith, length_pos (groups - 1) c.args.n))

pub bounds-part-0-2 : goal.bounds-part-0-2
bounds-part-0-2 t c = omega (arith, length_pos (groups - 1) c.args.n)

pub slice_bounds-write_number-count : goal.slice_bounds-write_number-count
slice_bounds-write_number-count t c = rw length-set (omega (arith, length_pos (groups - 1) c.args.n))

pub slice_bounds-write_number-start : goal.slice_bounds-write_number-start
slice_bounds-write_number-start t c = rw length-set (omega (arith, length_pos (groups - 1) c.args.n))

pub write_number-requires : goal.write_number-requires
write_number-requires t c = (omega arith, (omega arith, simp (length-take, length-drop, length-set) (omega (arith, ap length (shortest_cons (groups - 2) c.args.n (omega arith) (omega arith))))))

pub returns : goal.returns
returns t c = wrote_more _ _ _ _ (omega arith) (omega arith) (omega (arith, length_pos (groups - 1) c.args.n)) c.write_number.ensures.0 c.write_number.ensures.1
