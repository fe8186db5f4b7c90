-- `write_at` meets its contract: the part is put back behind the octets before the position. Assumes nothing.
use mathlib.Core.Path.{ap}
use native.Mathlib.Omega.{arith}
use lib.ListN.{length, length-take, length-drop}
use Rattle.numbers.proofs.Written.{over_part, encode_one}
use Rattle.number_writer.proofs.write_at.Goals as goal

pub slice_bounds-write_number-count : goal.slice_bounds-write_number-count
slice_bounds-write_number-count c = omega (arith, c.requires.room)

pub write_number-requires : goal.write_number-requires
write_number-requires c =
    let r = c.requires.room in
    (c.requires.fit.0, simp (length-take, length-drop) (omega (arith, r, ap length (encode_one c.args.n))))

pub overflow_add-result : goal.overflow_add-result
overflow_add-result c =
    omega (arith, c.requires.room, ap length (encode_one c.args.n), c.write_number.ensures.0)

pub returns : goal.returns
returns c = rw encode_one (omega arith, over_part _ _ _ _ c.write_number.ensures.1)
