-- How long numbers get: a larger number has as many octets or more, so that a limit's width bounds those of the numbers up to it.
-- Assumes nothing.
use mathlib.Core.Path.{◌≡◌, ap, ◌∙◌}
use mathlib.Core.List.{List, [], ◌∷◌}
use Prim.Native.Nat.{ℕ, zero, suc, ◌+◌, ◌*◌, ◌/◌, ◌≤◌, ◌<◌}
use native.Mathlib.Omega.{arith}
use native.Mathlib.Decide.{dec_lt}
use lib.ListN.{length, get_or, length-append}
use Rattle.numbers.specs.Leb128.{groups, shortest, encode}
use Rattle.numbers.specs.Writing.{width}
use Rattle.numbers.proofs.Groups.{shortest_last, shortest_more, length_pos}
use Rattle.numbers.proofs.Written.{encode_none, encode_cons}

shortest_most : (k m n : ℕ) → m ≤ n → length (shortest k m) ≤ length (shortest k n)
unfolding shortest
shortest_most zero m n h = omega arith
shortest_most (suc k) m n h = elim (dec_lt m 128) [
  | yes l ↦ omega (arith, ap length (shortest_last k m l), length_pos k n)
  | no g ↦ omega (arith, ap length (shortest_more k m (omega arith)), ap length (shortest_more k n (omega arith)), shortest_most k (m / 128) (n / 128) (omega arith))
]

pub width_most : (m n : ℕ) → m ≤ n → width m ≤ width n
unfolding width
width_most m n h = shortest_most groups m n h

-- the octets of a list of numbers are those of each
pub widths_none : length (encode []) ≡ 0
widths_none = ap length encode_none

pub widths_cons : (n : ℕ) (ns : List ℕ) → length (encode (n ∷ ns)) ≡ width n + length (encode ns)
unfolding width
widths_cons n ns = ap length (encode_cons n ns) ∙ length-append (shortest groups n) (encode ns)

-- at most k numbers, each up to high
pub widths_most : (k high : ℕ) (ns : List ℕ) → length ns ≤ k → ((i : ℕ) → i < length ns → get_or ns i 0 ≤ high) → length (encode ns) ≤ k * width high
widths_most k high [] l h = omega (arith, widths_none)
widths_most zero high (n ∷ ns) l h = absurd (omega arith)
widths_most (suc k) high (n ∷ ns) l h =
    omega (
      arith,
      widths_cons n ns,
      width_most n high (h 0 (omega arith)),
      widths_most k high ns (omega arith) (λ i q. h (suc i) (omega arith)),
    )
