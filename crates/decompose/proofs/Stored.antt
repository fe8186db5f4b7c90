-- Rows stored one after another in the struct of a plan: a store at n leaves the rows below n alone. Assumes nothing.
use mathlib.Core.Path.{◌≡◌, refl, sym, ap, subst⁻¹, ◌∙◌}
use mathlib.Core.List.{List, [], ◌∷◌, ◌++◌, append-nil}
use Prim.Native.Nat.{ℕ, zero, suc, ◌+◌, ◌<◌, min}
use native.Mathlib.Omega.{arith}
use native.Mathlib.Decide.{ℕ_discrete}
use lib.ListN.{length, get_or, set}
use lib.Seq.{get_or-set_same, get_or-set_other}
use Rattle.plans.specs.declared.Row.{Row}
use Rattle.plans.specs.declared.Plan.{Plan}
use Rattle.plans.specs.Held.{row_of, past, rows_below}
use Rattle.turn_rows.specs.Rows.{kept}

-- a plan with the row r at n
abbrev pub stored : Plan → ℕ → Row → Plan
stored p n r = record { amount = p.amount; horizon = p.horizon; cut = p.cut; count = p.count; rows = set p.rows n r }

pub rows_same : (p q : Plan) (n : ℕ) → ((i : ℕ) → i < n → get_or p.rows i past ≡ get_or q.rows i past) → rows_below p n ≡ rows_below q n
rows_same p q zero h = refl
rows_same p q (suc n) h = rw (rows_same p q n (λ i l. h i (omega arith)), h n (omega arith)) refl

module _ (p : Plan) (n : ℕ) (r : Row) where
  rows_below_lem : rows_below (stored p n r) n ≡ rows_below p n
  rows_below_lem = rows_same (stored p n r) p n (λ i l. get_or-set_other p.rows n i r past (omega arith))

  -- the row counts if d is not 0
  pub rows_stored : (d : ℕ) → n < length p.rows → rows_below (stored p n r) (n + min 1 d) ≡ rows_below p n ++ kept d (row_of r)
  rows_stored zero l =
      let e : n + min 1 0 ≡ n = omega arith in
      ap (rows_below (stored p n r)) e ∙ rows_below_lem ∙ sym (append-nil (rows_below p n))
  rows_stored (suc d) l =
      let e : n + min 1 (suc d) ≡ suc n = omega arith in
      ap (rows_below (stored p n r)) e
      ∙ ap (λ (rs : List _). rs ++ (row_of (get_or (set p.rows n r) n past) ∷ [])) rows_below_lem
      ∙ ap (λ (q : Row). rows_below p n ++ (row_of q ∷ [])) (get_or-set_same p.rows n r past l)

  -- what holds of the rows below n, and of the row stored at n, holds of one row more
  pub stored_all : (P : Row → Type 0) → n < length p.rows → P r → ((i : ℕ) → i < n → P (get_or p.rows i past))
      → (i : ℕ) → i < n + 1 → P (get_or (set p.rows n r) i past)
  stored_all P l here below i h =
      elim (ℕ_discrete i n) [
        | yes e ↦ subst⁻¹ P (ap (λ (j : ℕ). get_or (set p.rows n r) j past) e ∙ get_or-set_same p.rows n r past l) here
        | no d ↦ subst⁻¹ P (get_or-set_other p.rows n i r past d) (below i (omega arith))
      ]
