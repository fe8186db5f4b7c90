-- A plan's lines in the listing: "all lines are printed under every verdict: its number, amount and T, each row from 0, then the cut
-- with its bound".
use Rattle.std.specs.Prelude.{List, [], ◌∷◌, ◌++◌, map, ℕ}
use Rattle.flows.specs.Rows.{Row}
use Rattle.flows.specs.Plan.{Plan}
use Rattle.texts.specs.Decimal.{decimal}
use Rattle.texts.specs.Words as words
use Rattle.texts.specs.Lines.{line, numbered}
use Rattle.row_lines.specs.RowLine.{row_line}

unfoldable pub verdict_line : ℕ → List ℕ
verdict_line v = line words.verdict (decimal v ∷ [])

unfoldable pub amount_line : ℕ → ℕ → List ℕ
amount_line amount horizon = line words.amount (decimal amount ∷ words.horizon ∷ decimal horizon ∷ [])

-- the lines of rows, numbered from i: "each row from 0"
abbrev pub row_lines : ℕ → List Row → List ℕ
row_lines i rs = numbered row_line i rs

unfoldable pub cut_line : List ℕ → ℕ → List ℕ
cut_line π b = line words.cut (map decimal π ++ (words.bound ∷ decimal b ∷ []))

unfoldable pub plan_tail : ℕ → Plan → List ℕ
plan_tail b p = row_lines 0 p.rows ++ cut_line p.cut b

unfoldable pub plan_body : ℕ → Plan → List ℕ
plan_body b p = amount_line p.amount p.horizon ++ plan_tail b p

unfoldable pub plan_text : ℕ → ℕ → Plan → List ℕ
plan_text v b p = verdict_line v ++ plan_body b p
