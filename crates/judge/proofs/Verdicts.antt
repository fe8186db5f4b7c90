-- The verdict by the tests of the code, in their order: the first that finds a fault decides, and the rows' come first. Assumes nothing.
use mathlib.Core.Path.{◌≡◌, refl, sym}
use mathlib.Core.Bool.{Bool, true, false, cond}
use mathlib.Core.List.{List}
use Prim.Native.Nat.{ℕ, ◌-◌, ◌≤◌, ◌<◌}
use native.Mathlib.Omega.{arith}
use borrow.Author.Tests.{le-leb, lt-leb}
use Rattle.flows.specs.Network.{Network}
use Rattle.flows.specs.Cut.{bound}
use Rattle.flows.specs.Plan.{Plan, unchained, mismeasured, overloaded, late, missummed, miscut, unproven, verdict}
use Rattle.first_fault.specs.declared.Verdict.{Verdict}
use Rattle.first_fault.specs.declared.Verdict.TheVariants.{Passes, Unchained, Overloaded, Late, Missummed, Miscut, Unproven, Mismeasured}
use Rattle.first_fault.specs.Faults.{rows_fault}
use Rattle.first_fault.specs.Verdicts.{number_of}
use Rattle.judge.specs.Judge.{cut_fault}

-- ---- a verdict that is a fault has a number above 0

pub some_number : (v : Verdict) → (v ≡ Passes → ⊥) → 0 < number_of v
some_number Passes not = absurd (not refl)
some_number Unchained not = omega arith
some_number Overloaded not = omega arith
some_number Late not = omega arith
some_number Missummed not = omega arith
some_number Miscut not = omega arith
some_number Unproven not = omega arith
some_number Mismeasured not = omega arith

-- ---- the rows' faults, and x after them

abbrev after : Bool → Bool → Bool → Bool → Bool → ℕ → ℕ
after u w o l m x = cond u 1 (cond w 7 (cond o 2 (cond l 3 (cond m 4 x))))

after_none : (u w o l m : Bool) (x : ℕ) → after u w o l m 0 ≡ 0 → after u w o l m x ≡ x
after_none true w o l m x e = absurd (let z : ◌≡◌ {A = ℕ} 1 0 = e in omega arith)
after_none false true o l m x e = absurd (let z : ◌≡◌ {A = ℕ} 7 0 = e in omega arith)
after_none false false true l m x e = absurd (let z : ◌≡◌ {A = ℕ} 2 0 = e in omega arith)
after_none false false false true m x e = absurd (let z : ◌≡◌ {A = ℕ} 3 0 = e in omega arith)
after_none false false false false true x e = absurd (let z : ◌≡◌ {A = ℕ} 4 0 = e in omega arith)
after_none false false false false false x e = refl

after_some : (u w o l m : Bool) (x : ℕ) → 0 < after u w o l m 0 → after u w o l m 0 ≡ after u w o l m x
after_some true w o l m x h = refl
after_some false true o l m x h = refl
after_some false false true l m x h = refl
after_some false false false true m x h = refl
after_some false false false false true x h = refl
after_some false false false false false x h = absurd (omega arith)

module _ (N : Network) (p : Plan) where
  -- the rows' fault is the verdict
  pub verdict_rows : 0 < rows_fault N p → rows_fault N p ≡ verdict N p
  unfolding rows_fault verdict
  verdict_rows h =
      after_some (unchained N p.rows) (mismeasured N p.rows) (overloaded N p.rows) (late N p.horizon p.rows) (missummed p.amount p.rows) _ h

  -- where they have none it is the cut's
  pub verdict_cut : rows_fault N p ≡ 0 → cut_fault N p.amount p.horizon p.cut ≡ verdict N p
  unfolding rows_fault verdict cut_fault
  verdict_cut h =
      sym (after_none (unchained N p.rows) (mismeasured N p.rows) (overloaded N p.rows) (late N p.horizon p.rows) (missummed p.amount p.rows) _ h)

-- ---- the cut's faults

module _ (N : Network) (amount T : ℕ) (π : List ℕ) where
  pub cut_five : miscut N (T - 1) π ≡ true → 5 ≡ cut_fault N amount T π
  unfolding cut_fault
  cut_five h = rw h

  module _ (cuts : miscut N (T - 1) π ≡ false) where
    pub cut_six : amount ≤ bound N π → 6 ≡ cut_fault N amount T π
    unfolding cut_fault unproven
    cut_six h = rw (cuts, le-leb _ _ h)

    pub cut_none : bound N π < amount → 0 ≡ cut_fault N amount T π
    unfolding cut_fault unproven
    cut_none h = rw (cuts, lt-leb _ _ h)
