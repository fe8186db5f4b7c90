-- `tell` leaves the table as it was, or writes that of the network read. Assumes nothing.
use mathlib.Core.Path.{sym, ◌∙◌}
use Rattle.read_told.proofs.Told.{read_refused, read_told}
use Rattle.read_told.proofs.tell.Goals as goal

pub returns-in-Err : goal.returns-in-Err
returns-in-Err c = rw c.number.ensures (read_refused _ _ _ (sym c.in-Err.is ∙ c.read.ensures))

pub returns-in-Ok : goal.returns-in-Ok
returns-in-Ok c = read_told _ _ _ (sym c.in-Ok.is ∙ c.read.ensures) _ c.table_of.ensures
