-- `write_row_at` meets its contract: the part is put back behind the octets before the position. Assumes nothing.
use native.Mathlib.Omega.{arith}
use Rattle.numbers.proofs.Written.{over_part}
use Rattle.row_writer.proofs.Part.{part_writable}
use Rattle.row_writer.proofs.write_row_at.Goals as goal

pub slice_bounds-write_row-count : goal.slice_bounds-write_row-count
slice_bounds-write_row-count c = omega (arith, c.requires.1.room)

pub write_row-requires : goal.write_row-requires
write_row-requires c =
    (c.requires.0, part_writable _ _ _ c.requires.1)

pub overflow_add-result : goal.overflow_add-result
overflow_add-result c =
    omega (arith, c.requires.1.room, c.write_row.ensures.0)

pub returns : goal.returns
returns c = (omega arith, over_part _ _ _ _ c.write_row.ensures.1)
