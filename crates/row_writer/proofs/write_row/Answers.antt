-- `write_row` meets its contract: the number of its links and then its five parts are written one after another. Assumes nothing.
use Rattle.std.proofs.Common.{◌≡◌, ◌+◌, ◌≤◌, ℕ, List, [], ◌∷◌, ◌++◌, length, subst, sym, arith, rules}
use Rattle.limits.specs.Limits.{most_row_links}
use Rattle.numbers.specs.Leb128.{encode, over, over_at}
use Rattle.numbers.specs.Writing.{Writable}
use Rattle.numbers.proofs.Stages.{Stage, stage_none, stage_writable, stage_next, stage_all, front_all}
use Rattle.plans.specs.Record.{row_numbers}
use Rattle.plans.specs.Held.{row_of}
use Rattle.plans.specs.declared.Row.{Row}
use Rattle.plans.proofs.FiveParts.{after₁, after₂, after₃, after₄, whole, row_five, row_whole}
use Rattle.row_writer.proofs.write_row.Goals as goal

-- numbers written to b at a position: c is the buffer and end the position after them
abbrev Wrote : List ℕ → List ℕ → ℕ → List ℕ → ℕ → Type 0
Wrote new b at c end = (end ≡ at + length (encode new)) × (c ≡ over_at at (encode new) b)

abbrev numbers : Row → List ℕ
numbers r = (r.count ∷ []) ++ whole (row_five r)

given : (r : Row) (b₀ : List ℕ) → length r.links ≡ 63 → (r.count ≤ most_row_links) × Writable (row_numbers (row_of r)) b₀ 0 → Writable (numbers r) b₀ 0
given r b₀ l w = subst (λ (ns : List ℕ). Writable ns b₀ 0) (row_whole r (omega arith)) w.1

-- what is known after each part, b and a the buffer and the position there
module _ (r : Row) (b₀ : List ℕ) (w : Writable (numbers r) b₀ 0) where
  abbrev Written : List ℕ → List ℕ → ℕ → Type 0
  Written later b at = Stage (numbers r) b₀ 0 later b at

  stage₀ : Written (numbers r) b₀ 0
  stage₀ = stage_none _ _ _ w

  module _ (b₁ : List ℕ) (a₁ : ℕ) (e₁ : Wrote (r.count ∷ []) b₀ 0 b₁ a₁) where
    stage₁ : Written (whole (row_five r)) b₁ a₁
    stage₁ = stage_next _ _ _ w (r.count ∷ []) (whole (row_five r)) _ _ stage₀ _ _ e₁

    module _ (b₂ : List ℕ) (a₂ : ℕ) (e₂ : Wrote (row_five r).x₁ b₁ a₁ b₂ a₂) where
      stage₂ : Written (after₁ (row_five r)) b₂ a₂
      stage₂ = stage_next _ _ _ w (row_five r).x₁ (after₁ (row_five r)) _ _ stage₁ _ _ e₂

      module _ (b₃ : List ℕ) (a₃ : ℕ) (e₃ : Wrote (row_five r).x₂ b₂ a₂ b₃ a₃) where
        stage₃ : Written (after₂ (row_five r)) b₃ a₃
        stage₃ = stage_next _ _ _ w (row_five r).x₂ (after₂ (row_five r)) _ _ stage₂ _ _ e₃

        module _ (b₄ : List ℕ) (a₄ : ℕ) (e₄ : Wrote (row_five r).x₃ b₃ a₃ b₄ a₄) where
          stage₄ : Written (after₃ (row_five r)) b₄ a₄
          stage₄ = stage_next _ _ _ w (row_five r).x₃ (after₃ (row_five r)) _ _ stage₃ _ _ e₄

          module _ (b₅ : List ℕ) (a₅ : ℕ) (e₅ : Wrote (row_five r).x₄ b₄ a₄ b₅ a₅) where
            stage₅ : Written (after₄ (row_five r)) b₅ a₅
            stage₅ = stage_next _ _ _ w (row_five r).x₄ (after₄ (row_five r)) _ _ stage₄ _ _ e₅

            stage₆ : (b₆ : List ℕ) (a₆ : ℕ) → Wrote (row_five r).x₅ b₅ a₅ b₆ a₆ → Written [] b₆ a₆
            stage₆ b₆ a₆ e₆ = stage_next _ _ _ w (row_five r).x₅ [] _ _ stage₅ _ _ e₆

pub write_at-chain-requires : goal.write_at-chain-requires
write_at-chain-requires c =
    let r = c.args.row.now in
    let l : length r.links ≡ 63 = search rules in
    let w = given r c.args.part.now l c.requires in
    stage_writable _ _ _ w (r.count ∷ []) (whole (row_five r)) _ _ (stage₀ r _ w)

pub write_chain-length-requires : goal.write_chain-length-requires
write_chain-length-requires c =
    let r = c.args.row.now in
    let l : length r.links ≡ 63 = search rules in
    let w = given r c.args.part.now l c.requires in
    stage_writable _ _ _ w (row_five r).x₁ (after₁ (row_five r)) _ _ (stage₁ r _ w _ _ c.write_at-chain.ensures)

pub write_at-rate-requires : goal.write_at-rate-requires
write_at-rate-requires c =
    let r = c.args.row.now in
    let l : length r.links ≡ 63 = search rules in
    let w = given r c.args.part.now l c.requires in
    stage_writable _ _ _ w (row_five r).x₂ (after₂ (row_five r)) _ _ (stage₂ r _ w _ _ c.write_at-chain.ensures _ _ c.write_chain-length.ensures)

pub write_at-first-requires : goal.write_at-first-requires
write_at-first-requires c =
    let r = c.args.row.now in
    let l : length r.links ≡ 63 = search rules in
    let w = given r c.args.part.now l c.requires in
    stage_writable _ _ _ w (row_five r).x₃ (after₃ (row_five r)) _ _
    (stage₃ r _ w _ _ c.write_at-chain.ensures _ _ c.write_chain-length.ensures _ _ c.write_at-rate.ensures)

pub write_at-departures-requires : goal.write_at-departures-requires
write_at-departures-requires c =
    let r = c.args.row.now in
    let l : length r.links ≡ 63 = search rules in
    let w = given r c.args.part.now l c.requires in
    stage_writable _ _ _ w (row_five r).x₄ (after₄ (row_five r)) _ _
    (stage₄ r _ w _ _ c.write_at-chain.ensures _ _ c.write_chain-length.ensures _ _ c.write_at-rate.ensures _ _ c.write_at-first.ensures)

pub write_at-requires : goal.write_at-requires
write_at-requires c =
    let r = c.args.row.now in
    let l : length r.links ≡ 63 = search rules in
    let w = given r c.args.part.now l c.requires in
    stage_writable _ _ _ w (row_five r).x₅ [] _ _
    (stage₅ r _ w _ _ c.write_at-chain.ensures _ _ c.write_chain-length.ensures _ _ c.write_at-rate.ensures _ _ c.write_at-first.ensures
    _ _ c.write_at-departures.ensures)

pub returns : goal.returns
returns c =
    let r = c.args.row.now in
    let l : length r.links ≡ 63 = search rules in
    let b = c.args.part.now in
    let w = given r b l c.requires in
    subst (λ (ns : List ℕ). (c.write_at.result ≡ length (encode ns)) × (c.write_at.new.buffer ≡ over (encode ns) b))
    (sym (row_whole r (omega arith)))
    (front_all _ _ _ _ (stage_all _ _ _ _ _
    (stage₆ r b w _ _ c.write_at-chain.ensures _ _ c.write_chain-length.ensures _ _ c.write_at-rate.ensures _ _ c.write_at-first.ensures
    _ _ c.write_at-departures.ensures _ _ c.write_at.ensures)))
