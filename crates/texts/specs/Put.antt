-- What a function that puts a text to the front of a lent part answers and leaves, and the texts that lines are put together from.
use Rattle.std.specs.Prelude.{◌≡◌, List, [], ◌∷◌, ◌++◌, ℕ, length}
use Rattle.numbers.specs.Leb128.{over}
use Rattle.texts.specs.Decimal.{decimal}
use Rattle.texts.specs.Words as words

pub record Put (text before after : List ℕ) (r : ℕ) : Type 0 where
  pub size : r ≡ length text
  pub written : after ≡ over text before

-- a number after a space
abbrev pub spaced : ℕ → List ℕ
spaced n = words.space ∷ decimal n

-- numbers, each after a space
abbrev pub all_spaced : List ℕ → List ℕ
all_spaced [] = []
all_spaced (n ∷ ns) = spaced n ++ all_spaced ns

-- a word and a number, and the line's end
abbrev pub ending : List ℕ → ℕ → List ℕ
ending word n = (word ++ decimal n) ++ (words.line_end ∷ [])
