-- The first of the faults of a plan's rows.
use Rattle.std.specs.Prelude.{◌≡◌, cond, List, ℕ}
use Rattle.flows.specs.Network.{Network}
use Rattle.flows.specs.Rows.{all_uses}
use Rattle.flows.specs.Plan.{Plan, unchained, mismeasured, overloaded, late, missummed}
use Rattle.row_uses.specs.Uses.{Columns, Filed}
use Rattle.row_tests.specs.declared.Seen.{Seen}
use Rattle.row_tests.specs.Seen.{seen_of}

-- "the first that applies", of the verdicts on rows
unfoldable pub rows_fault : Network → Plan → ℕ
rows_fault N p =
    cond (unchained N p.rows) 1
    (cond (mismeasured N p.rows) 7
    (cond (overloaded N p.rows) 2
    (cond (late N p.horizon p.rows) 3
    (cond (missummed p.amount p.rows) 4
    0))))

-- where a plan's rows were looked at and are filed, the answer is the first of their faults
abbrev pub TellsFault : Network → ℕ → Seen → Columns → List ℕ → ℕ → Type 0
TellsFault N amount seen c head r =
    (n : ℕ) (p : Plan) → p.amount ≡ amount → seen ≡ seen_of N p.horizon p.rows → Filed c head n (all_uses N p.rows) → r ≡ rows_fault N p
