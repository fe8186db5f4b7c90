-- The words of a line with the spaces around them, and a list's numbers in a line: each stands after a space. Assumes nothing.
use mathlib.Core.Path.{◌≡◌, refl, ap, ◌∙◌}
use mathlib.Core.List.{List, [], ◌∷◌, ◌++◌, map, append_assoc}
use Prim.Native.Nat.{ℕ}
use Rattle.texts.specs.Decimal.{decimal}
use Rattle.texts.specs.Words as words
use Rattle.texts.specs.Lines.{after}
use Rattle.texts.specs.Put.{spaced, all_spaced}

-- a word with the space after it, at the start of a line and within
abbrev pub opens : List ℕ → List ℕ
opens w = w ++ (words.space ∷ [])

abbrev pub between : List ℕ → List ℕ
between w = (words.space ∷ w) ++ (words.space ∷ [])

pub after_numbers : (ns : List ℕ) (ps : List (List ℕ)) → after (map decimal ns ++ ps) ≡ all_spaced ns ++ after ps
after_numbers [] ps = refl
after_numbers (n ∷ ns) ps = ap (λ (t : List ℕ). spaced n ++ t) (after_numbers ns ps) ∙ rw append_assoc
