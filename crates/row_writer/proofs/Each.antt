-- A loop that writes the numbers of a list, one a turn: those from the turn on come later. Assumes nothing.
use mathlib.Core.Path.{◌≡◌, sym, ◌∙◌}
use mathlib.Core.List.{List, [], ◌∷◌, ◌++◌}
use Prim.Native.Nat.{ℕ, ◌+◌, ◌≤◌, ◌<◌}
use native.Mathlib.Numerals.{add-one}
use lib.ListN.{length, get_or, drop, drop_of_length-le}
use lib.Seq.{drop-cons}
use Rattle.numbers.specs.Leb128.{encode, over_at}
use Rattle.numbers.specs.Writing.{Writable}
use Rattle.numbers.proofs.Stages.{Stage, stage_writable, stage_next, stage_all}

module _ (all b₀ : List ℕ) (start : ℕ) (w : Writable all b₀ start) (b : List ℕ) (at i : ℕ) (s : Stage all b₀ start (drop i all) b at)
    (h : i < length all) where
  each_stage : Stage all b₀ start ((get_or all i 0 ∷ []) ++ drop (i + 1) all) b at
  each_stage =
      let e : drop i all ≡ get_or all i 0 ∷ drop (i + 1) all =
      drop-cons all i 0 h ∙ (λ j. get_or all i 0 ∷ drop (sym (add-one i) j) all) in
      rw (← e) s

  pub each_writable : Writable (get_or all i 0 ∷ []) b at
  each_writable = stage_writable all b₀ start w (get_or all i 0 ∷ []) (drop (i + 1) all) b at each_stage

  pub each_next : (c : List ℕ) (end : ℕ) → (end ≡ at + length (encode (get_or all i 0 ∷ []))) × (c ≡ over_at at (encode (get_or all i 0 ∷ [])) b)
      → Stage all b₀ start (drop (i + 1) all) c end
  each_next c end d = stage_next all b₀ start w (get_or all i 0 ∷ []) (drop (i + 1) all) b at each_stage c end d

pub each_all : (all b₀ : List ℕ) (start : ℕ) (b : List ℕ) (at i : ℕ) → length all ≤ i → Stage all b₀ start (drop i all) b at
    → (at ≡ start + length (encode all)) × (b ≡ over_at start (encode all) b₀)
each_all all b₀ start b at i h s =
    let z : drop i all ≡ [] = drop_of_length-le all {i = i} h in
    stage_all all b₀ start b at (rw z at s)
