-- The two ways to write a group: the last one, and one that others follow. Assumes nothing.
use mathlib.Core.Path.{◌≡◌}
use mathlib.Core.List.{[], ◌∷◌}
use Prim.Native.Nat.{ℕ, suc, ◌+◌, ◌/◌, ◌%◌, ◌≤◌, ◌<◌}
use native.Mathlib.Omega.{arith}
use borrow.Author.Tests.{lt-ltb, le-ltb}
use Rattle.numbers.specs.Leb128.{shortest}

pub shortest_last : (k n : ℕ) → n < 128 → shortest (suc k) n ≡ n ∷ []
unfolding shortest
shortest_last k n h = rw (lt-ltb n 128 (omega arith))

pub shortest_more : (k n : ℕ) → 128 ≤ n → shortest (suc k) n ≡ (128 + n % 128) ∷ shortest k (n / 128)
unfolding shortest
shortest_more k n h = rw (le-ltb n 128 (omega arith))
