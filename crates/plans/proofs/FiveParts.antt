-- Five parts that are written one after another: a row's numbers after their count, and a plan's. Assumes nothing.
use mathlib.Core.Path.{◌≡◌, sym, ap}
use mathlib.Core.List.{List, [], ◌∷◌, ◌++◌, append-nil}
use Prim.Native.Nat.{ℕ, ◌≤◌}
use lib.ListN.{length, take}
use lib.Seq.{length-take-le}
use Rattle.plans.specs.declared.Row.{Row}
use Rattle.plans.specs.declared.Plan.{Plan}
use Rattle.plans.specs.Record.{row_numbers, rows_numbers, numbers_of}
use Rattle.plans.specs.Held.{row_of, rows_below, model_of}
use Rattle.plans.proofs.Model.{length_rows}

pub record Five : Type 0 where
  pub x₁ : List ℕ
  pub x₂ : List ℕ
  pub x₃ : List ℕ
  pub x₄ : List ℕ
  pub x₅ : List ℕ

-- the numbers after each part, the last part before the empty list
abbrev pub after₄ : Five → List ℕ
after₄ f = f.x₅ ++ []

abbrev pub after₃ : Five → List ℕ
after₃ f = f.x₄ ++ after₄ f

abbrev pub after₂ : Five → List ℕ
after₂ f = f.x₃ ++ after₃ f

abbrev pub after₁ : Five → List ℕ
after₁ f = f.x₂ ++ after₂ f

abbrev pub whole : Five → List ℕ
whole f = f.x₁ ++ after₁ f

----- The numbers of a row's struct and of a plan's

abbrev pub row_five : Row → Five
row_five r =
    record { x₁ = take r.count r.links; x₂ = r.length ∷ []; x₃ = r.rate ∷ []; x₄ = r.first ∷ []; x₅ = r.departures ∷ [] }

pub row_whole : (r : Row) → r.count ≤ length r.links → row_numbers (row_of r) ≡ r.count ∷ whole (row_five r)
row_whole r h = ap (λ (n : ℕ). n ∷ (take r.count r.links ++ (r.length ∷ r.rate ∷ r.first ∷ r.departures ∷ []))) (length-take-le r.count r.links h)

abbrev pub plan_five : ℕ → Plan → Five
plan_five places p = record {
  x₁ = p.amount ∷ [];
  x₂ = p.horizon ∷ [];
  x₃ = take places p.cut;
  x₄ = p.count ∷ [];
  x₅ = rows_numbers (rows_below p p.count);
}

pub plan_whole : (places : ℕ) (p : Plan) → numbers_of (model_of places p) ≡ whole (plan_five places p)
unfolding model_of
plan_whole places p =
    λ j. p.amount ∷ p.horizon ∷ (take places p.cut ++ (length_rows p p.count j ∷ sym (append-nil (rows_numbers (rows_below p p.count))) j))
