-- The campaign sheet's lines: "one line for each row with its blocks (rate × departures), and a last line with the total".
use Rattle.std.specs.Prelude.{List, [], ◌∷◌, ◌++◌, ℕ, ◌*◌}
use Rattle.flows.specs.Rows.{Row, total}
use Rattle.texts.specs.Decimal.{decimal}
use Rattle.texts.specs.Words as words
use Rattle.texts.specs.Lines.{line, numbered}

unfoldable pub blocks_line : ℕ → ℕ → List ℕ
blocks_line i blocks = line words.row (decimal i ∷ words.blocks ∷ decimal blocks ∷ [])

unfoldable pub total_line : ℕ → List ℕ
total_line sum = line words.total (decimal sum ∷ [])

-- a row's line
abbrev pub row_blocks : ℕ → Row → List ℕ
row_blocks i r = blocks_line i (r.rate * r.departures)

-- a line for each row; the total is the sum that verdict 4 compares with the amount
unfoldable pub sheet_text : List Row → List ℕ
sheet_text rs = numbered row_blocks 0 rs ++ total_line (total rs)
