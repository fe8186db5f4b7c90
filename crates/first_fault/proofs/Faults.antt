-- The first of the rows' faults, by the tests of the code in their order: what was seen is what the rows show. Assumes nothing.
use mathlib.Core.Path.{◌≡◌, sym, ap, ◌∙◌}
use mathlib.Core.Bool.{Bool, true, false, not}
use Prim.Native.Nat.{ℕ}
use lib.Dec.{eqb}
use Rattle.flows.specs.Network.{Network}
use Rattle.flows.specs.Plan.{Plan, unchained, mismeasured, overloaded, late, missummed}
use Rattle.row_tests.specs.declared.Seen.{Seen}
use Rattle.row_tests.specs.Seen.{seen_of}
use Rattle.first_fault.specs.Faults.{rows_fault}

module _ (N : Network) (p : Plan) (seen : Seen) (is : seen ≡ seen_of N p.horizon p.rows) where
  breaks : (b : Bool) → seen.unchained ≡ b → unchained N p.rows ≡ b
  breaks b h = sym (ap (λ (s : Seen). s.unchained) is) ∙ h

  differs : (b : Bool) → seen.mismeasured ≡ b → mismeasured N p.rows ≡ b
  differs b h = sym (ap (λ (s : Seen). s.mismeasured) is) ∙ h

  tardy : (b : Bool) → seen.late ≡ b → late N p.horizon p.rows ≡ b
  tardy b h = sym (ap (λ (s : Seen). s.late) is) ∙ h

  sums : (amount : ℕ) (b : Bool) → p.amount ≡ amount → not (eqb seen.total amount) ≡ b → missummed p.amount p.rows ≡ b
  unfolding missummed
  sums amount b same h = rw same (sym (ap (λ (s : Seen). not (eqb s.total amount)) is) ∙ h)

  pub fault_one : seen.unchained ≡ true → 1 ≡ rows_fault N p
  unfolding rows_fault
  fault_one h = rw (breaks true h)

  module _ (chained : seen.unchained ≡ false) where
    pub fault_seven : seen.mismeasured ≡ true → 7 ≡ rows_fault N p
    unfolding rows_fault
    fault_seven h = rw (breaks false chained, differs true h)

    module _ (measured : seen.mismeasured ≡ false) where
      pub fault_two : overloaded N p.rows ≡ true → 2 ≡ rows_fault N p
      unfolding rows_fault
      fault_two h = rw (breaks false chained, differs false measured, h)

      module _ (fits : overloaded N p.rows ≡ false) where
        pub fault_three : seen.late ≡ true → 3 ≡ rows_fault N p
        unfolding rows_fault
        fault_three h = rw (breaks false chained, differs false measured, fits, tardy true h)

        module _ (timely : seen.late ≡ false) (amount : ℕ) (same : p.amount ≡ amount) where
          pub fault_four : not (eqb seen.total amount) ≡ true → 4 ≡ rows_fault N p
          unfolding rows_fault
          fault_four h = rw (breaks false chained, differs false measured, fits, tardy false timely, sums amount true same h)

          pub fault_none : not (eqb seen.total amount) ≡ false → 0 ≡ rows_fault N p
          unfolding rows_fault
          fault_none h = rw (breaks false chained, differs false measured, fits, tardy false timely, sums amount false same h)
