-- `put_sheet` meets its contract: what is turned down is one line, and the plan that was read has the lines of its rows and their total.
-- Assumes nothing.
use Rattle.std.proofs.Common.{sym, ap, ◌∙◌, le_trans}
use Rattle.plans.specs.Held.{model_of}
use Rattle.texts.specs.Lines.{refused_text}
use Rattle.texts.proofs.Putting.{put_same}
use Rattle.inputs.proofs.Answers.{was_read, was_refused}
use Rattle.sheet_text.proofs.Fits.{summable, sheet_short}
use Rattle.sheet_text.proofs.Input.{sheeted_refused, sheeted_read}
use Rattle.sheet_text.proofs.put_sheet.Goals as goal

pub returns-in-Err : goal.returns-in-Err
returns-in-Err c =
    put_same
    (ap refused_text c.number.ensures ∙ sheeted_refused _ _ (was_refused _ c.in-Err.refusal (sym c.in-Err.is ∙ c.take.ensures)))
    c.put_refused.ensures

-- both records were read
pub put_sheet-requires : goal.put_sheet-requires
unfolding model_of
put_sheet-requires c =
    let was = was_read c.args.input.now c.in-Ok.read (sym c.in-Ok.is ∙ c.take.ensures) in
    let in_limits = was.are.plan.in_limits in
    record {
      summable = summable _ _ c.in-Ok.read.plan in_limits;
      room = le_trans (sheet_short _ _ c.in-Ok.read.plan in_limits) c.requires;
    }

pub returns-in-Ok : goal.returns-in-Ok
unfolding model_of
returns-in-Ok c = put_same (sheeted_read _ _ (was_read c.args.input.now c.in-Ok.read (sym c.in-Ok.is ∙ c.take.ensures))) c.put_sheet.ensures
