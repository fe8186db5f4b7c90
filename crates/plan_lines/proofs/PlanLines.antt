-- The cut's line in the order in which it is put. Assumes nothing.
use mathlib.Core.Path.{◌≡◌, sym, ap, ◌∙◌}
use mathlib.Core.List.{List, [], ◌∷◌, ◌++◌, map, append_assoc}
use Prim.Native.Nat.{ℕ}
use Rattle.std.proofs.lemmas.List.{map-id}
use Rattle.texts.specs.Decimal.{decimal}
use Rattle.texts.specs.Words as words
use Rattle.texts.specs.Put.{all_spaced, ending}
use Rattle.texts.proofs.Spaces.{between, after_numbers}
use Rattle.plan_lines.specs.PlanText.{cut_line}

-- the cut's numbers as they are put
abbrev pub of_cut : List ℕ → List ℕ
of_cut π = all_spaced (map (λ n. n) π)

abbrev pub of_bound : ℕ → List ℕ
of_bound b = ending (between words.bound) b

pub cut_parts : (π : List ℕ) (b : ℕ) → cut_line π b ≡ (words.cut ++ of_cut π) ++ of_bound b
unfolding cut_line
cut_parts π b =
    ap (λ (t : List ℕ). words.cut ++ t) (after_numbers π (words.bound ∷ decimal b ∷ []))
    ∙ ap (λ (t : List ℕ). words.cut ++ (t ++ of_bound b)) (ap all_spaced (sym (map-id π)))
    ∙ sym (append_assoc words.cut (of_cut π) (of_bound b))
