-- The structs in which uses are filed are small. Assumes nothing.
use mathlib.Core.Path.{◌≡◌}
use Prim.Native.Nat.{ℕ, ◌+◌, ◌*◌, ◌≤◌, ◌<◌}
use native.Mathlib.Omega.{arith}
use prog.Memory.{up}

up_two : (e : ℕ) → up 2 e ≤ e + 1
up_two e = omega arith

up_four : (e : ℕ) → up 4 e ≤ e + 3
up_four e = omega arith

module _ (rows uses : ℕ) (few : rows ≤ 257) (all : uses ≡ 63 * rows) where
  below : (a b c d e : ℕ) → a ≤ 512 + uses * 2 + 1 → b ≤ a + uses * 2 + 3 → c ≤ b + rows * 4 + 3 → d ≤ c + rows * 4 + 3 → e ≤ d + rows * 4 + 3
      → e < 9223372036854775808
  below a b c d e p q r s t = omega arith

  pub file_size : up 4 (up 4 (up 4 (up 4 (up 2 (512 + uses * 2) + uses * 2) + rows * 4) + rows * 4) + rows * 4) < 9223372036854775808
  file_size =
      let a : ℕ = up 2 (512 + uses * 2) in
      let b : ℕ = up 4 (a + uses * 2) in
      let c : ℕ = up 4 (b + rows * 4) in
      let d : ℕ = up 4 (c + rows * 4) in
      below a b c d (up 4 (d + rows * 4)) (up_two (512 + uses * 2)) (up_four (a + uses * 2)) (up_four (b + rows * 4)) (up_four (c + rows * 4))
      (up_four (d + rows * 4))
