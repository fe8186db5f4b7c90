-- `tell` tells the numbers of the answer that `write` names. Assumes nothing.
use borrow.Author.Rules.{rules}
use Rattle.tables.proofs.TableTold.{write_told}
use Rattle.write_told.proofs.tell.Goals as goal

pub returns-in-Err : goal.returns-in-Err
returns-in-Err c =
    rw c.number.ensures
    (write_told _ _ _ _ _ (search rules) c.network_of-network.ensures c.write.ensures.refusal c.write.ensures.size c.write.ensures.buffer_after _ c.in-Err.is)

pub returns-in-Ok : goal.returns-in-Ok
returns-in-Ok c =
    write_told _ _ _ _ _ (search rules) c.network_of-network.ensures c.write.ensures.refusal c.write.ensures.size c.write.ensures.buffer_after _ c.in-Ok.is
