-- `tell` tells the numbers of the answer that `plan` promises. Assumes nothing.
use Rattle.plan_told.proofs.Told.{plan_refused, plan_told}
use Rattle.plan_told.proofs.tell.Goals as goal

pub returns-in-Err : goal.returns-in-Err
returns-in-Err c = rw c.number.ensures (plan_refused _ _ _ _ _ c.plan.ensures _ c.in-Err.is)

pub returns-in-Ok : goal.returns-in-Ok
returns-in-Ok c = rw c.from.ensures (plan_told _ _ _ _ _ c.plan.ensures _ c.in-Ok.is)
