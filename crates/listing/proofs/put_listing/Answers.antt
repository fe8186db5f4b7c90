-- `put_listing` meets its contract: what is turned down is one line, and the plan that was read has its lines under the verdict that
-- judging gives it. Assumes nothing.
use Rattle.std.proofs.Common.{ℕ, sym, ap, ◌∙◌, le_trans, arith}
use Rattle.flows.specs.Plan.{verdict}
use Rattle.network.specs.Held as networks
use Rattle.network.proofs.Links.{places_few, links_few}
use Rattle.plans.specs.Held.{model_of}
use Rattle.examiner.proofs.Reading.{read_given}
use Rattle.texts.specs.Lines.{refused_text}
use Rattle.texts.proofs.Putting.{put_same}
use Rattle.inputs.proofs.Answers.{was_read, was_refused}
use Rattle.plan_lines.specs.PlanText.{plan_text}
use Rattle.listing.proofs.Fits.{plan_short}
use Rattle.listing.proofs.Input.{countable, listed_refused, listed_read}
use Rattle.listing.proofs.put_listing.Goals as goal

pub returns-in-Err : goal.returns-in-Err
returns-in-Err c =
    put_same
    (ap refused_text c.number.ensures ∙ listed_refused _ _ (was_refused _ c.in-Err.refusal (sym c.in-Err.is ∙ c.take.ensures)))
    c.put_refused.ensures

pub judge-found-requires : goal.judge-found-requires
judge-found-requires c =
    let was = was_read c.args.input.now c.in-Ok.read (sym c.in-Ok.is ∙ c.take.ensures) in
    read_given was.are.network was.are.plan

-- the text fits, under any verdict and bound
pub put_plan-requires : goal.put_plan-requires
put_plan-requires c =
    let read = c.in-Ok.read in
    let was = was_read c.args.input.now read (sym c.in-Ok.is ∙ c.take.ensures) in
    let few = places_few read.network was.are.network.well_formed in record {
      places = few;
      counted = countable read.network read.plan (read_given was.are.network was.are.plan);
      room = le_trans
          (plan_short _ _ c.number-verdict.result c.judge-found.result.bound _ few (links_few read.network was.are.network.well_formed)
          (omega arith) (omega arith) was.are.plan.in_limits)
          c.requires;
    }

pub returns-in-Ok : goal.returns-in-Ok
returns-in-Ok c =
    let read = c.in-Ok.read in
    let was = was_read c.args.input.now read (sym c.in-Ok.is ∙ c.take.ensures) in
    let N = networks.model_of read.network in
    let p = model_of read.network.places read.plan in
    put_same
    (ap (λ (v : ℕ). plan_text v c.judge-found.result.bound p) (c.number-verdict.ensures ∙ c.judge-found.ensures.verdict)
    ∙ ap (λ (b : ℕ). plan_text (verdict N p) b p) c.judge-found.ensures.bound
    ∙ listed_read _ _ was)
    c.put_plan.ensures
