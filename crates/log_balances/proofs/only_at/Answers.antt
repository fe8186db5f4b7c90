-- `only_at` meets its contract, case by case. Assumes nothing.
use mathlib.Core.Path.{sym}
use Rattle.flows.proofs.Sums.{only_same, only_other}
use Rattle.log_balances.proofs.only_at.Goals as goal

pub returns-then-a-v : goal.returns-then-a-v
returns-then-a-v c = rw c.if-a-v.true (sym (only_same _ _))

pub returns-else-a-v : goal.returns-else-a-v
returns-else-a-v c = sym (only_other _ _ _ c.if-a-v.false)
