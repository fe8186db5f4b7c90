-- `first_fault::decide` meets its contract: the tests in their order, and what each tells decide the case. Assumes nothing.
use mathlib.Core.Path.{sym, ap, ◌∙◌}
use mathlib.Core.Bool.{not}
use borrow.Author.Tests.{eq-eqb, ne_eqb}
use Rattle.first_fault.proofs.Faults.{fault_one, fault_seven, fault_two, fault_three, fault_four, fault_none}
use Rattle.first_fault.proofs.decide.Goals as goal

pub returns-then-seen : goal.returns-then-seen
returns-then-seen c = λ n p same is filed. fault_one _ p _ is c.if-seen.true

pub returns-then-seen-2 : goal.returns-then-seen-2
returns-then-seen-2 c = λ n p same is filed. fault_seven _ p _ is c.if-seen.false c.if-seen-2.true

pub returns-then-overloaded : goal.returns-then-overloaded
returns-then-overloaded c =
    λ n p same is filed.
    fault_two _ p _ is c.if-seen.false c.if-seen-2.false
    (sym (c.overloaded.ensures n p.rows filed) ∙ c.if-overloaded.true)

pub returns-then-seen-3 : goal.returns-then-seen-3
returns-then-seen-3 c =
    λ n p same is filed.
    fault_three _ p _ is c.if-seen.false c.if-seen-2.false
    (sym (c.overloaded.ensures n p.rows filed) ∙ c.if-overloaded.false)
    c.if-seen-3.true

pub returns-then-missummed : goal.returns-then-missummed
returns-then-missummed c =
    λ n p same is filed.
    fault_four _ p _ is c.if-seen.false c.if-seen-2.false
    (sym (c.overloaded.ensures n p.rows filed) ∙ c.if-overloaded.false)
    c.if-seen-3.false _ same (ap not (ne_eqb _ _ (rw c.from.ensures at c.if-missummed.true)))

pub returns : goal.returns
returns c =
    λ n p same is filed.
    fault_none _ p _ is c.if-seen.false c.if-seen-2.false
    (sym (c.overloaded.ensures n p.rows filed) ∙ c.if-overloaded.false)
    c.if-seen-3.false _ same (ap not (eq-eqb _ _ (rw c.from.ensures at c.if-missummed.false)))
