-- `write_copy_at` meets its contract: the part is put back behind the octets before the position. Assumes nothing.
use native.Mathlib.Omega.{arith}
use lib.ListN.{length-take, length-drop}
use Rattle.numbers.proofs.Written.{over_part}
use Rattle.plan_carrier.proofs.write_copy_at.Goals as goal

pub slice_bounds-put_word-count : goal.slice_bounds-put_word-count
slice_bounds-put_word-count c = omega (arith, c.requires)

pub put_word-requires : goal.put_word-requires
put_word-requires c = simp (length-take, length-drop) (omega (arith, c.requires))

pub overflow_add-result : goal.overflow_add-result
overflow_add-result c =
    omega (arith, c.requires, c.put_word.ensures.size)

pub returns : goal.returns
returns c = (omega arith, over_part _ _ _ _ c.put_word.ensures.written)
