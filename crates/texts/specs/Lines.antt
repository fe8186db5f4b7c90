-- Lines of text: "parts stand one space apart, each line ends with 0A".
use Rattle.std.specs.Prelude.{List, [], ◌∷◌, ◌++◌, ℕ, suc}
use Rattle.texts.specs.Decimal.{decimal}
use Rattle.texts.specs.Words as words

-- what stands in a line after its first part
abbrev pub after : List (List ℕ) → List ℕ
after [] = words.line_end ∷ []
after (p ∷ ps) = words.space ∷ (p ++ after ps)

abbrev pub line : List ℕ → List (List ℕ) → List ℕ
line first more = first ++ after more

-- the lines of a list's elements, numbered from i
unfoldable pub numbered : {A : Type 0} → (ℕ → A → List ℕ) → ℕ → List A → List ℕ
numbered f i [] = []
numbered f i (x ∷ xs) = f i x ++ numbered f (suc i) xs

-- "it prints `refused` and the number"
unfoldable pub refused_text : ℕ → List ℕ
refused_text e = line words.refused (decimal e ∷ [])
