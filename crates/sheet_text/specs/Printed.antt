-- The numbers of a printed text, read back from its octets, and what it means that a sheet adds up: "the total is the sum of the lines
-- printed above it".
use Rattle.std.specs.Prelude.{◌≡◌, List, [], ◌∷◌, ◌++◌, map, Bool, cond, ◌&&◌, ℕ, ◌+◌, ◌-◌, ◌*◌, length, leb, eqb}
use Rattle.texts.specs.Decimal.{digit}
use Rattle.texts.specs.Words as words

-- what stands in a line after its last space: nothing, a number by its digits, or something else
pub data Part : Type 0 where
  nothing : Part
  number : ℕ → Part
  other : Part

abbrev pub is_digit : ℕ → Bool
is_digit octet = leb (digit 0) octet && leb octet (digit 9)

abbrev pub with_digit : Part → ℕ → Part
with_digit nothing d = number d
with_digit (number n) d = number (n * 10 + d)
with_digit other d = other

-- the part with one octet more: a space starts another, and what is no digit makes it no number
abbrev pub further : Part → ℕ → Part
further part octet = cond (eqb octet words.space) nothing (cond (is_digit octet) (with_digit part (octet - digit 0)) other)

-- the last part of each line, where `part` was read of the first line before
abbrev pub last_from : Part → List ℕ → List Part
last_from part [] = []
last_from part (x ∷ xs) = cond (eqb x words.line_end) (part ∷ last_from nothing xs) (last_from (further part x) xs)

-- the last part of each line of a text
unfoldable pub last_parts : List ℕ → List Part
last_parts text = last_from nothing text

abbrev pub sum_of : List ℕ → ℕ
sum_of [] = 0
sum_of (n ∷ ns) = n + sum_of ns

-- a text of so many lines and one more, each of which ends with a number: that of the last line is this sum, and it is the sum of the
-- numbers above it
pub record AddsUp (text : List ℕ) (lines sum : ℕ) : Type 0 where
  pub above : List ℕ
  pub one_a_line : length above ≡ lines
  pub printed : last_parts text ≡ map number above ++ (number sum ∷ [])
  pub adds : sum ≡ sum_of above
