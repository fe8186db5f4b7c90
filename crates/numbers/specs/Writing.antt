-- What writing numbers asks: each has a shortest form, and the octets that are lent have room for them; and how long a number gets.
use Rattle.std.specs.Prelude.{List, [], ◌∷◌, ℕ, ◌+◌, ◌^◌, ◌≤◌, ◌<◌, length}
use Rattle.numbers.specs.Leb128.{groups, shortest, encode}

-- numbers that have a shortest form
abbrev pub Fit : List ℕ → Type 0
Fit [] = Unit {0}
Fit (n ∷ ns) = (n < 128 ^ groups) × Fit ns

-- the numbers ns can be written to the octets from the position start on
pub record Writable (ns octets : List ℕ) (start : ℕ) : Type 0 where
  pub fit : Fit ns
  pub room : start + length (encode ns) ≤ length octets

-- how many octets a number has
unfoldable pub width : ℕ → ℕ
width n = length (shortest groups n)
