-- `put_sheet` meets its contract: the rows' lines, then the line of their sum in the part after them. Assumes nothing.
use Rattle.std.proofs.Common.{ℕ, List, ◌≡◌, ◌++◌, ◌≤◌, length, ap, sym}
use Rattle.flows.specs.Rows.{total}
use Rattle.plans.specs.declared.Plan.{Plan}
use Rattle.plans.specs.Held.{rows_below}
use Rattle.texts.specs.Words as words
use Rattle.texts.specs.Lines.{numbered}
use Rattle.texts.specs.Put.{ending}
use Rattle.texts.proofs.Spaces.{opens}
use Rattle.texts.proofs.Putting.{put_then, put_same, fits_same, put_first, put_part}
use Rattle.sheet_lines.specs.SheetText.{row_blocks, total_line, sheet_text}
use Rattle.sheet_lines.proofs.put_sheet.Goals as goal

abbrev of_rows : Plan → List ℕ
of_rows plan = numbered row_blocks 0 (rows_below plan plan.count)

abbrev of_total : ℕ → List ℕ
of_total sum = ending (opens words.total) sum

-- the sheet with the sum that was worked out
sheet_of : (plan : Plan) (sum : ℕ) → sum ≡ total (rows_below plan plan.count) → of_rows plan ++ of_total sum ≡ sheet_text (rows_below plan plan.count)
unfolding sheet_text total_line
sheet_of plan sum e = ap (λ n. of_rows plan ++ of_total n) e

room : (plan : Plan) (sum k : ℕ) → sum ≡ total (rows_below plan plan.count) → length (sheet_text (rows_below plan plan.count)) ≤ k → length (of_rows plan ++ of_total sum) ≤ k
room plan sum k e h = fits_same _ _ (sym (sheet_of plan sum e)) h

pub put_rows-at-requires-clause-room : goal.put_rows-at-requires-clause-room
put_rows-at-requires-clause-room c = put_first (of_rows c.args.plan) (of_total c.total-sum.result) _ (room c.args.plan _ _ c.total-sum.ensures c.requires.room)

pub put_line-requires : goal.put_line-requires
put_line-requires c =
    put_part (of_rows c.args.plan) (of_total c.total-sum.result) _ _ _ c.put_rows-at.ensures (room c.args.plan _ _ c.total-sum.ensures c.requires.room)

pub returns : goal.returns
returns c =
    put_same (sheet_of c.args.plan _ c.total-sum.ensures)
    (put_then (of_rows c.args.plan) (of_total c.total-sum.result) _ _ _ _ _ c.put_rows-at.ensures c.put_line.ensures)
