-- `tell` tells the numbers of the answer that `examine` names. Assumes nothing.
use mathlib.Core.Path.{◌≡◌, sym, ap, ◌∙◌}
use Rattle.std.specs.Prelude.{Result}
use Rattle.refusals.specs.declared.Refusal.{Refusal}
use Rattle.judge.specs.declared.Judged.{Judged}
use Rattle.examiner.specs.Answer.{answer_of}
use Rattle.examine_told.proofs.Told.{examined_refused, examined_told}
use Rattle.examine_told.proofs.tell.Goals as goal

pub returns-in-Err : goal.returns-in-Err
returns-in-Err c =
    rw c.number.ensures (examined_refused _ _ (sym (ap answer_of c.in-Err.is) ∙ c.examine.ensures.0))

pub returns-in-Ok : goal.returns-in-Ok
returns-in-Ok c =
    rw c.number-in-Ok.ensures (examined_told _ _ _ (sym (ap answer_of c.in-Ok.is) ∙ c.examine.ensures.0))
