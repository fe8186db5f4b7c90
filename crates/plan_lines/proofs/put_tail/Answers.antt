-- `put_tail` meets its contract: the rows' lines, then the cut's in the part after them. Assumes nothing.
use Rattle.std.proofs.Common.{ℕ, List, ◌++◌, ◌≤◌, length, take}
use Rattle.plans.specs.declared.Plan.{Plan}
use Rattle.plans.specs.Held.{rows_below, model_of}
use Rattle.texts.proofs.Putting.{put_then, put_first, put_part}
use Rattle.plan_lines.specs.PlanText.{row_lines, cut_line, plan_tail}
use Rattle.plan_lines.proofs.put_tail.Goals as goal

abbrev of_rows : Plan → List ℕ
of_rows plan = row_lines 0 (rows_below plan plan.count)

room : (bound places : ℕ) (plan : Plan) (k : ℕ) → length (plan_tail bound (model_of places plan)) ≤ k → length (of_rows plan ++ cut_line (take places plan.cut) bound) ≤ k
unfolding plan_tail model_of
room bound places plan k h = h

pub put_rows-at-requires-clause-room : goal.put_rows-at-requires-clause-room
put_rows-at-requires-clause-room c = put_first (of_rows c.args.plan) _ _ (room _ _ c.args.plan _ c.requires.room)

pub put_cut_line-requires : goal.put_cut_line-requires
put_cut_line-requires c = put_part (of_rows c.args.plan) _ _ _ _ c.put_rows-at.ensures (room _ _ c.args.plan _ c.requires.room)

pub returns : goal.returns
unfolding plan_tail model_of
returns c = put_then (of_rows c.args.plan) _ _ _ _ _ _ c.put_rows-at.ensures c.put_cut_line.ensures
