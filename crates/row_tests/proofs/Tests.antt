-- What the rows of a plan's struct show, row by row. Assumes nothing.
use mathlib.Core.Path.{◌≡◌, refl, ap, ◌∙◌}
use mathlib.Core.Bool.{Bool, true, false, ◌||◌}
use mathlib.Core.List.{List, [], ◌∷◌, ◌++◌}
use Prim.Native.Nat.{ℕ, ◌+◌}
use native.Mathlib.Numerals.{add-one}
use lib.ListN.{get_or}
use Rattle.flows.specs.Network as flows
use Rattle.flows.specs.Rows.{Row}
use Rattle.flows.specs.Plan.{some_row, unchained, mismeasured, late}
use Rattle.flows.proofs.Rows.{total_more}
use Rattle.row_chains.specs.Chains.{stray_row}
use Rattle.row_tests.specs.declared.Seen.{Seen}
use Rattle.row_tests.specs.Seen.{mismeasured_row, late_row, seen_of, seen_with}
use Rattle.plans.specs.declared.Plan.{Plan}
use Rattle.plans.specs.Held.{row_of, past, rows_below}

-- ---- what rows show, with one row more

or_false : (b : Bool) → (b || false) ≡ b
or_false true = refl
or_false false = refl

or_assoc : (a b c : Bool) → (a || (b || c)) ≡ ((a || b) || c)
or_assoc true b c = refl
or_assoc false b c = refl

some_row_more : (t : Row → Bool) (rs : List Row) (r : Row) → some_row t (rs ++ (r ∷ [])) ≡ (some_row t rs || t r)
some_row_more t [] r = or_false (t r)
some_row_more t (q ∷ rs) r = ap (λ (b : Bool). t q || b) (some_row_more t rs r) ∙ or_assoc (t q) (some_row t rs) (t r)

module _ (N : flows.Network) (T : ℕ) where
  unchained_more : (rs : List Row) (r : Row) → unchained N (rs ++ (r ∷ [])) ≡ (unchained N rs || stray_row N r)
  unfolding unchained
  unchained_more rs r = some_row_more (stray_row N) rs r

  mismeasured_more : (rs : List Row) (r : Row) → mismeasured N (rs ++ (r ∷ [])) ≡ (mismeasured N rs || mismeasured_row N r)
  unfolding mismeasured
  mismeasured_more rs r = some_row_more (mismeasured_row N) rs r

  late_more : (rs : List Row) (r : Row) → late N T (rs ++ (r ∷ [])) ≡ (late N T rs || late_row N T r)
  unfolding late
  late_more rs r = some_row_more (late_row N T) rs r

  pub seen_none : ◌≡◌ {A = Seen} (record { unchained = false; mismeasured = false; late = false; total = 0 }) (seen_of N T [])
  unfolding unchained mismeasured late
  seen_none = refl

  seen_more : (rs : List Row) (r : Row) → seen_of N T (rs ++ (r ∷ [])) ≡ seen_with N T (seen_of N T rs) r
  seen_more rs r =
      λ i. record { unchained = unchained_more rs r i; mismeasured = mismeasured_more rs r i; late = late_more rs r i; total = total_more rs r i }

  -- the rows below i and row i
  pub seen_below : (plan : Plan) (i : ℕ)
      → seen_of N T (rows_below plan (i + 1)) ≡ seen_with N T (seen_of N T (rows_below plan i)) (row_of (get_or plan.rows i past))
  seen_below plan i = rw add-one (seen_more (rows_below plan i) (row_of (get_or plan.rows i past)))
