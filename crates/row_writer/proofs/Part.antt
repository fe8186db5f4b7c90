-- A row is written to the part of a buffer that starts at its position. Assumes nothing.
use mathlib.Core.List.{List}
use Prim.Native.Nat.{ℕ, ◌-◌}
use native.Mathlib.Omega.{arith}
use lib.ListN.{length, take, drop, length-take, length-drop}
use Rattle.numbers.specs.Writing.{Writable}

-- what can be written from a position on can be written to the part that starts there
pub part_writable : (ns b : List ℕ) (at : ℕ) → Writable ns b at → Writable ns (take (length b - at) (drop at b)) 0
part_writable ns b at w = record { fit = w.fit; room = simp (length-take, length-drop) (omega (arith, w.room)) }
