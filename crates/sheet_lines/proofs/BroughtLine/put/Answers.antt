-- The line of a row's blocks is put: the row's number, then its blocks and the line's end in the part after it. Assumes nothing.
use Rattle.std.proofs.Common.{ℕ, List, ◌≡◌, ◌++◌, ◌*◌, ◌≤◌, length, ap, sym}
use Rattle.plans.specs.declared.Row as plans
use Rattle.plans.specs.Held.{row_of}
use Rattle.texts.specs.Decimal.{decimal}
use Rattle.texts.specs.Words as words
use Rattle.texts.specs.Put.{ending}
use Rattle.texts.proofs.Spaces.{opens, between}
use Rattle.texts.proofs.Putting.{put_then, put_same, fits_same, put_first, put_part}
use Rattle.sheet_lines.specs.SheetText.{blocks_line, row_blocks}
use Rattle.sheet_lines.proofs.BroughtLine.put.Goals as goal

abbrev of_row : ℕ → List ℕ
of_row number = opens words.row ++ decimal number

abbrev of_blocks : ℕ → List ℕ
of_blocks blocks = ending (between words.blocks) blocks

-- the line of the blocks that were worked out
line_of_blocks : (number blocks : ℕ) (row : plans.Row) → blocks ≡ row.rate * row.departures → of_row number ++ of_blocks blocks ≡ row_blocks number (row_of row)
unfolding blocks_line
line_of_blocks number blocks row e = ap (λ n. of_row number ++ of_blocks n) e

room : (number blocks k : ℕ) (row : plans.Row) → blocks ≡ row.rate * row.departures → length (row_blocks number (row_of row)) ≤ k → length (of_row number ++ of_blocks blocks) ≤ k
room number blocks k row e h = fits_same _ _ (sym (line_of_blocks number blocks row e)) h

pub put_named-at-requires : goal.put_named-at-requires
put_named-at-requires c =
    put_first (of_row c.args.number) (of_blocks c.blocks-blocks.result) _ (room _ _ _ c.args.row c.blocks-blocks.ensures.0 c.requires.room)

pub put_line-requires : goal.put_line-requires
put_line-requires c =
    put_part (of_row c.args.number) (of_blocks c.blocks-blocks.result) _ _ _ c.put_named-at.ensures
    (room _ _ _ c.args.row c.blocks-blocks.ensures.0 c.requires.room)

pub returns : goal.returns
returns c =
    put_same (line_of_blocks _ _ c.args.row c.blocks-blocks.ensures.0)
    (put_then (of_row c.args.number) (of_blocks c.blocks-blocks.result) _ _ _ _ _ c.put_named-at.ensures c.put_line.ensures)
