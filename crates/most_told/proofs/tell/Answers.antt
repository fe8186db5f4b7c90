-- `tell` tells the numbers of the answer that `most` promises. Assumes nothing.
use Rattle.most_told.proofs.Told.{most_refused, most_told}
use Rattle.most_told.proofs.tell.Goals as goal

pub returns-in-Err : goal.returns-in-Err
returns-in-Err c = rw c.number.ensures (most_refused _ _ _ _ _ c.most.ensures _ c.in-Err.is)

pub returns-in-Ok : goal.returns-in-Ok
returns-in-Ok c = most_told _ _ _ _ _ c.most.ensures _ c.in-Ok.is
