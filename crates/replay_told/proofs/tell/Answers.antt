-- `tell` tells the numbers of the answer that `replay` names. Assumes nothing.
use mathlib.Core.Path.{sym, ◌∙◌}
use Rattle.replay_told.proofs.Told.{refused_told, found_told}
use Rattle.replay_told.proofs.tell.Goals as goal

pub returns-in-Err : goal.returns-in-Err
returns-in-Err c = refused_told _ _ (sym c.in-Err.is ∙ c.replay.ensures.answer) _ c.number-in-Err.ensures

pub returns-in-Ok : goal.returns-in-Ok
returns-in-Ok c = found_told _ _ (sym c.in-Ok.is ∙ c.replay.ensures.answer) _ _ c.number.ensures c.delivered.ensures
