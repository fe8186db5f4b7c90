-- `refusal` meets its contract: each test that holds is the definition's first. Assumes nothing.
use native.Mathlib.Omega.{arith}
use Rattle.plan_refusals.proofs.Refusals.{amount_low, amount_high, buffer_short, within_limits}
use Rattle.plan_refusals.proofs.refusal.Goals as goal
use Rattle.plan_refusals.proofs.refusal.Goals.{then-amount-from-via-then-amount-from, then-amount-from-via-else-amount-from+then-from-amount}

pub returns-then-amount-from : goal.returns-then-amount-from
returns-then-amount-from c = elim c.then-amount-from.branch [
  | then-amount-from-via-then-amount-from w ↦ amount_low _ _ (omega (arith, w.if-amount-from.true, c.from.ensures))
  | then-amount-from-via-else-amount-from+then-from-amount w ↦
      amount_high _ _ (omega (arith, w.if-amount-from.false, c.from.ensures)) (omega (arith, w.if-from-amount.true, w.from-else-amount-from.ensures))
]

pub returns-then-lent-lt-PLAN_BUFFER : goal.returns-then-lent-lt-PLAN_BUFFER
returns-then-lent-lt-PLAN_BUFFER c = buffer_short _ _ (omega arith) (omega arith) (omega arith)

pub returns : goal.returns
returns c = within_limits _ _ (omega arith) (omega arith) (omega arith)
