-- The lines of a plan's rows, by the rows' numbers: what a loop over the rows puts. Assumes nothing.
use mathlib.Core.Path.{◌≡◌, refl, ap, ◌∙◌}
use mathlib.Core.List.{List, ◌++◌}
use Prim.Native.Nat.{ℕ, zero, suc}
use native.Mathlib.Nat.{zero-add}
use lib.ListN.{length, get_or}
use Rattle.flows.specs.Rows as rows
use Rattle.plans.specs.declared.Plan.{Plan}
use Rattle.plans.specs.Held.{row_of, past, rows_below}
use Rattle.plans.proofs.Model.{length_rows}
use Rattle.texts.specs.Lines.{numbered}
use Rattle.texts.proofs.InOrder.{in_order, numbered_more}

module _ (line : ℕ → rows.Row → List ℕ) (plan : Plan) where
  abbrev pub line_of : ℕ → List ℕ
  line_of i = line i (row_of (get_or plan.rows i past))

  pub rows_order : (n : ℕ) → numbered line 0 (rows_below plan n) ≡ in_order line_of n
  unfolding numbered
  rows_order zero = refl
  rows_order (suc n) =
      numbered_more line 0 (rows_below plan n) (row_of (get_or plan.rows n past))
      ∙ ap (λ (i : ℕ). numbered line 0 (rows_below plan n) ++ line i (row_of (get_or plan.rows n past))) (zero-add (length (rows_below plan n)) ∙ length_rows plan n)
      ∙ ap (λ (t : List ℕ). t ++ line_of n) (rows_order n)
