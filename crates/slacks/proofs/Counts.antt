-- What counts of a signed number: below zero nothing, and otherwise the number itself. Assumes nothing.
use mathlib.Core.Path.{◌≡◌, refl}
use mathlib.Core.Bool.{Bool, true, false}
use Prim.Native.Nat.{ℕ, zero, suc, ◌≤◌}
use native.Mathlib.Omega.{arith}
use lib.Dec.{ltb}
use lib.IntN.{ℤ, pos, negsuc, sub_ℕ, ◌-ℤ◌}
use Rattle.flows.specs.Cut.{slack_of, counted}

mag_subℕ_le : (a b : ℕ) (t : Bool) → ltb a b ≡ t → counted (sub_ℕ a b) ≤ a
mag_subℕ_le a b true e = rw e (omega arith)
mag_subℕ_le a b false e = rw e (omega arith)

-- taking a natural number away lowers what counts
counted_sub : (x : ℤ) (t : ℕ) → counted (x -ℤ pos t) ≤ counted x
counted_sub (pos a) zero = omega arith
counted_sub (pos a) (suc t) = mag_subℕ_le a (suc t) (ltb a (suc t)) refl
counted_sub (negsuc a) zero = mag_subℕ_le 0 (suc a) (ltb 0 (suc a)) refl
counted_sub (negsuc a) (suc t) = omega arith

pub counted_le : (e s t : ℕ) → counted (slack_of e s t) ≤ e
counted_le e s t = omega (arith, counted_sub (pos e -ℤ pos s) t, counted_sub (pos e) s)
