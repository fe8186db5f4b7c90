-- `write_four` meets its contract: each number is written behind the one before it, and there is room for all four. Assumes nothing.
use mathlib.Core.Path.{◌≡◌}
use mathlib.Core.List.{List, [], ◌∷◌}
use Prim.Native.Nat.{ℕ, ◌+◌}
use lib.ListN.{length}
use Rattle.numbers.specs.Leb128.{encode, over_at}
use Rattle.numbers.specs.Writing.{Writable}
use Rattle.numbers.proofs.Stages.{Stage, stage_none, stage_writable, stage_next, stage_all}
use Rattle.record_writer.proofs.write_four.Goals as goal

-- the number n written at a position of octets
abbrev Wrote : ℕ → List ℕ → ℕ → List ℕ → ℕ → Type 0
Wrote n before at after end = (end ≡ at + length (encode (n ∷ []))) × (after ≡ over_at at (encode (n ∷ [])) before)

-- the numbers still to be written, after each call
module _ (k l m n : ℕ) (b₀ : List ℕ) (at : ℕ) (w : Writable (k ∷ l ∷ m ∷ n ∷ []) b₀ at) (b₁ : List ℕ) (p : ℕ) (first : Wrote k b₀ at b₁ p) where
  three : Stage (k ∷ l ∷ m ∷ n ∷ []) b₀ at (l ∷ m ∷ n ∷ []) b₁ p
  three = stage_next _ _ _ w (k ∷ []) (l ∷ m ∷ n ∷ []) _ _ (stage_none _ _ _ w) _ _ first

  module _ (b₂ : List ℕ) (q : ℕ) (second : Wrote l b₁ p b₂ q) where
    two : Stage (k ∷ l ∷ m ∷ n ∷ []) b₀ at (m ∷ n ∷ []) b₂ q
    two = stage_next _ _ _ w (l ∷ []) (m ∷ n ∷ []) _ _ three _ _ second

    module _ (b₃ : List ℕ) (u : ℕ) (third : Wrote m b₂ q b₃ u) where
      one : Stage (k ∷ l ∷ m ∷ n ∷ []) b₀ at (n ∷ []) b₃ u
      one = stage_next _ _ _ w (m ∷ []) (n ∷ []) _ _ two _ _ third

      none : (b₄ : List ℕ) (v : ℕ) → Wrote n b₃ u b₄ v → Stage (k ∷ l ∷ m ∷ n ∷ []) b₀ at [] b₄ v
      none b₄ v fourth = stage_next _ _ _ w (n ∷ []) [] _ _ one _ _ fourth

pub write_at-p-requires : goal.write_at-p-requires
write_at-p-requires c =
    stage_writable _ _ _ c.requires (c.args.a ∷ []) (c.args.b ∷ c.args.c ∷ c.args.d ∷ []) _ _ (stage_none _ _ _ c.requires)

pub write_at-q-requires : goal.write_at-q-requires
write_at-q-requires c =
    stage_writable _ _ _ c.requires (c.args.b ∷ []) (c.args.c ∷ c.args.d ∷ []) _ _ (three _ _ _ _ _ _ c.requires _ _ c.write_at-p.ensures)

pub write_at-u-requires : goal.write_at-u-requires
write_at-u-requires c =
    stage_writable _ _ _ c.requires (c.args.c ∷ []) (c.args.d ∷ []) _ _ (two _ _ _ _ _ _ c.requires _ _ c.write_at-p.ensures _ _ c.write_at-q.ensures)

pub write_at-requires : goal.write_at-requires
write_at-requires c =
    stage_writable _ _ _ c.requires (c.args.d ∷ []) [] _ _
    (one _ _ _ _ _ _ c.requires _ _ c.write_at-p.ensures _ _ c.write_at-q.ensures _ _ c.write_at-u.ensures)

pub returns : goal.returns
returns c =
    stage_all _ _ _ _ _
    (none _ _ _ _ _ _ c.requires _ _ c.write_at-p.ensures _ _ c.write_at-q.ensures _ _ c.write_at-u.ensures _ _ c.write_at.ensures)
