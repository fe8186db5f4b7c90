-- `write` meets its contract: the plan's five parts are written one after another, and of the last, the rows, one a turn. Assumes nothing.
use Rattle.std.proofs.Common.{◌≡◌, ◌+◌, ◌≤◌, ℕ, ◌<◌, List, [], length, subst, sym, arith}
use lib.Seq.{get_or-take}
use Rattle.numbers.specs.Leb128.{encode, over_at}
use Rattle.numbers.specs.Writing.{Writable}
use Rattle.numbers.proofs.Stages.{Stage, stage_none, stage_writable, stage_next, stage_all}
use Rattle.plans.specs.declared.Plan.{Plan}
use Rattle.plans.specs.Record.{record_of}
use Rattle.plans.specs.Held.{past}
use Rattle.plans.specs.WritablePlan.{WritablePlan}
use Rattle.plans.proofs.FiveParts.{Five, after₁, after₂, after₃, after₄, whole, plan_five, plan_whole}
use Rattle.plans.proofs.WritePlan.{plan_writable}
use Rattle.plan_writer.proofs.Writing.{row_writable, row_next, rows_all}
use Rattle.plan_writer.proofs.write.Goals as goal

-- numbers written to b at a position: c is the buffer and end the position after them
abbrev Wrote : List ℕ → List ℕ → ℕ → List ℕ → ℕ → Type 0
Wrote new b at c end = (end ≡ at + length (encode new)) × (c ≡ over_at at (encode new) b)

-- what is known after each part, b and a the buffer and the position there
module _ (places : ℕ) (p : Plan) (b₀ : List ℕ) (start : ℕ) (asked : WritablePlan places p b₀ start) where
  abbrev five : Five
  five = plan_five places p

  w : Writable (whole five) b₀ start
  w = plan_writable places p b₀ start asked

  abbrev Written : List ℕ → List ℕ → ℕ → Type 0
  Written later b at = Stage (whole five) b₀ start later b at

  stage₀ : Written (whole five) b₀ start
  stage₀ = stage_none _ _ _ w

  ready₁ : Writable five.x₁ b₀ start
  ready₁ = stage_writable _ _ _ w five.x₁ (after₁ five) _ _ stage₀

  module _ (b₁ : List ℕ) (a₁ : ℕ) (e₁ : Wrote five.x₁ b₀ start b₁ a₁) where
    stage₁ : Written (after₁ five) b₁ a₁
    stage₁ = stage_next _ _ _ w five.x₁ (after₁ five) _ _ stage₀ _ _ e₁

    ready₂ : Writable five.x₂ b₁ a₁
    ready₂ = stage_writable _ _ _ w five.x₂ (after₂ five) _ _ stage₁

    module _ (b₂ : List ℕ) (a₂ : ℕ) (e₂ : Wrote five.x₂ b₁ a₁ b₂ a₂) where
      stage₂ : Written (after₂ five) b₂ a₂
      stage₂ = stage_next _ _ _ w five.x₂ (after₂ five) _ _ stage₁ _ _ e₂

      ready₃ : Writable five.x₃ b₂ a₂
      ready₃ = stage_writable _ _ _ w five.x₃ (after₃ five) _ _ stage₂

      module _ (b₃ : List ℕ) (a₃ : ℕ) (e₃ : Wrote five.x₃ b₂ a₂ b₃ a₃) where
        stage₃ : Written (after₃ five) b₃ a₃
        stage₃ = stage_next _ _ _ w five.x₃ (after₃ five) _ _ stage₂ _ _ e₃

        ready₄ : Writable five.x₄ b₃ a₃
        ready₄ = stage_writable _ _ _ w five.x₄ (after₄ five) _ _ stage₃

        module _ (b₄ : List ℕ) (a₄ : ℕ) (e₄ : Wrote five.x₄ b₃ a₃ b₄ a₄) where
          stage₄ : Written (after₄ five) b₄ a₄
          stage₄ = stage_next _ _ _ w five.x₄ (after₄ five) _ _ stage₃ _ _ e₄

          ready₅ : Writable five.x₅ b₄ a₄
          ready₅ = stage_writable _ _ _ w five.x₅ [] _ _ stage₄

          stage₅ : (b₅ : List ℕ) (a₅ : ℕ) → Wrote five.x₅ b₄ a₄ b₅ a₅ → Written [] b₅ a₅
          stage₅ b₅ a₅ e₅ = stage_next _ _ _ w five.x₅ [] _ _ stage₄ _ _ e₅

pub write_at-second-requires : goal.write_at-second-requires
write_at-second-requires c = ready₁ _ _ _ _ c.requires

pub write_at-third-requires : goal.write_at-third-requires
write_at-third-requires c = ready₂ _ _ _ _ c.requires _ _ c.write_at-second.ensures

pub write_cut-fourth-requires : goal.write_cut-fourth-requires
write_cut-fourth-requires c = ready₃ _ _ _ _ c.requires _ _ c.write_at-second.ensures _ _ c.write_at-third.ensures

pub write_at-at-requires : goal.write_at-at-requires
write_at-at-requires c =
    ready₄ _ _ _ _ c.requires _ _ c.write_at-second.ensures _ _ c.write_at-third.ensures _ _ c.write_cut-fourth.ensures

pub loop-row-init : goal.loop-row-init
loop-row-init c =
    stage_none _ _ _ (ready₅ _ _ _ _ c.requires _ _ c.write_at-second.ensures _ _ c.write_at-third.ensures _ _ c.write_cut-fourth.ensures
    _ _ c.write_at-at.ensures)

pub write_row_at-at-requires : goal.write_row_at-at-requires
write_row_at-at-requires c =
    let plan = c.args.plan.now in
    let inside : c.loop-row.row-index < plan.count = omega (arith, c.loop-row-test.true) in
    let ready = ready₅ _ _ _ _ c.requires _ _ c.write_at-second.ensures _ _ c.write_at-third.ensures _ _ c.write_cut-fourth.ensures
    _ _ c.write_at-at.ensures in
    rw (get_or-take plan.count plan.rows c.loop-row.row-index past inside)
    (c.requires.countable.links _ inside, row_writable plan _ _ ready _ _ _ c.loop-row.invariant inside)

pub loop-row-preserved : goal.loop-row-preserved
loop-row-preserved c =
    let plan = c.args.plan.now in
    let inside : c.loop-row.row-index < plan.count = omega (arith, c.loop-row-test.true) in
    let ready = ready₅ _ _ _ _ c.requires _ _ c.write_at-second.ensures _ _ c.write_at-third.ensures _ _ c.write_cut-fourth.ensures
    _ _ c.write_at-at.ensures in
    row_next plan _ _ ready _ _ _ c.loop-row.invariant inside _ _
    (rw (get_or-take plan.count plan.rows c.loop-row.row-index past inside) at c.write_row_at-at.ensures)

pub returns : goal.returns
unfolding record_of
returns c =
    let plan = c.args.plan.now in
    let all : plan.count ≤ c.loop-row.row-index = omega (arith, c.loop-row-test.false, c.requires.countable.count) in
    subst (λ (ns : List ℕ). (c.loop-row.at ≡ c.args.start + length (encode ns)) × (c.loop-row.buffer ≡ over_at c.args.start (encode ns) c.args.buffer.now))
    (sym (plan_whole c.args.places plan))
    (stage_all _ _ _ _ _ (stage₅ _ _ _ _ c.requires _ _ c.write_at-second.ensures _ _ c.write_at-third.ensures _ _ c.write_cut-fourth.ensures
    _ _ c.write_at-at.ensures _ _ (rows_all plan _ _ _ _ _ all c.loop-row.invariant)))
