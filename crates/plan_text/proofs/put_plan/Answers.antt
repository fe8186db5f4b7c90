-- `put_plan` meets its contract: the parts of the text are put one after another, each into the part of the octets after those before it.
-- Assumes nothing.
use Rattle.std.proofs.Common.{ℕ, List, ◌++◌, ◌≤◌, length, sym, ap}
use Rattle.plans.specs.declared.Plan.{Plan}
use Rattle.plans.specs.Held.{model_of}
use Rattle.texts.proofs.Putting.{put_then, put_same, fits_same, put_first, put_part}
use Rattle.plan_lines.specs.PlanText.{plan_tail, plan_text}
use Rattle.plan_text.proofs.PlanParts.{text_parts, of_verdict, of_amount, of_horizon}
use Rattle.plan_text.proofs.put_plan.Goals as goal

-- the text as far as the amount and the horizon, and what is after it
module _ (v b places : ℕ) (plan : Plan) where
  abbrev to_amount : List ℕ
  to_amount = of_verdict v ++ of_amount plan.amount

  abbrev to_horizon : List ℕ
  to_horizon = to_amount ++ of_horizon plan.horizon

  abbrev tail : List ℕ
  tail = plan_tail b (model_of places plan)

  module _ (k : ℕ) (fits : length (plan_text v b (model_of places plan)) ≤ k) where
    room : length (to_horizon ++ tail) ≤ k
    unfolding model_of
    room = fits_same _ _ (text_parts v b (model_of places plan)) fits

    room_horizon : length to_horizon ≤ k
    room_horizon = put_first to_horizon tail _ room

    room_amount : length to_amount ≤ k
    room_amount = put_first to_amount (of_horizon plan.horizon) _ room_horizon

pub put_line-at-requires : goal.put_line-at-requires
put_line-at-requires c =
    fits_same _ _ (ap of_verdict (sym c.from.ensures))
    (put_first (of_verdict c.args.verdict) (of_amount c.args.plan.amount) _ (room_amount _ c.args.bound c.args.places c.args.plan _ c.requires.room))

pub put_named-at-requires : goal.put_named-at-requires
put_named-at-requires c =
    fits_same _ _ (ap of_amount (sym c.from-2.ensures))
    (put_part (of_verdict c.args.verdict) (of_amount c.args.plan.amount) _ _ _ (put_same (ap of_verdict c.from.ensures) c.put_line-at.ensures)
    (room_amount _ c.args.bound c.args.places c.args.plan _ c.requires.room))

pub put_line-at-requires-2 : goal.put_line-at-requires-2
put_line-at-requires-2 c =
    let v = c.args.verdict in
    let plan = c.args.plan in
    let amount = put_then (of_verdict v) (of_amount plan.amount) _ _ _ _ _ (put_same (ap of_verdict c.from.ensures) c.put_line-at.ensures) (put_same (ap of_amount c.from-2.ensures) c.put_named-at.ensures) in
    fits_same _ _ (ap of_horizon (sym c.from-3.ensures))
    (put_part (of_verdict v ++ of_amount plan.amount) (of_horizon plan.horizon) _ _ _ amount (room_horizon v c.args.bound c.args.places plan _ c.requires.room))

pub put_tail-requires-clause-room : goal.put_tail-requires-clause-room
put_tail-requires-clause-room c =
    let v = c.args.verdict in
    let plan = c.args.plan in
    let amount = put_then (of_verdict v) (of_amount plan.amount) _ _ _ _ _ (put_same (ap of_verdict c.from.ensures) c.put_line-at.ensures) (put_same (ap of_amount c.from-2.ensures) c.put_named-at.ensures) in
    let horizon = put_then (of_verdict v ++ of_amount plan.amount) (of_horizon plan.horizon) _ _ _ _ _ amount (put_same (ap of_horizon c.from-3.ensures) c.put_line-at-2.ensures) in
    put_part ((of_verdict v ++ of_amount plan.amount) ++ of_horizon plan.horizon) (plan_tail c.args.bound (model_of c.args.places plan)) _ _ _ horizon
    (room v c.args.bound c.args.places plan _ c.requires.room)

pub returns : goal.returns
unfolding model_of
returns c =
    let v = c.args.verdict in
    let plan = c.args.plan in
    let amount = put_then (of_verdict v) (of_amount plan.amount) _ _ _ _ _ (put_same (ap of_verdict c.from.ensures) c.put_line-at.ensures) (put_same (ap of_amount c.from-2.ensures) c.put_named-at.ensures) in
    let horizon = put_then (of_verdict v ++ of_amount plan.amount) (of_horizon plan.horizon) _ _ _ _ _ amount (put_same (ap of_horizon c.from-3.ensures) c.put_line-at-2.ensures) in
    put_same (sym (text_parts v c.args.bound (model_of c.args.places plan)))
    (put_then ((of_verdict v ++ of_amount plan.amount) ++ of_horizon plan.horizon) (plan_tail c.args.bound (model_of c.args.places plan)) _ _ _ _ _ horizon c.put_tail.ensures)
