-- What the rows of a plan show, row after row.
use Rattle.std.specs.Prelude.{Bool, not, ◌||◌, List, ℕ, ◌+◌, ◌*◌, ltb, eqb}
use Rattle.flows.specs.Clock.{counting}
use Rattle.flows.specs.Network.{Network}
use Rattle.flows.specs.Rows.{Row, duration, ends, total}
use Rattle.flows.specs.Plan.{unchained, mismeasured, late}
use Rattle.row_chains.specs.Chains.{stray_row}
use Rattle.row_tests.specs.declared.Seen.{Seen}

-- the tests of rows, and the sum, that need nothing but one row after another
abbrev pub seen_of : Network → ℕ → List Row → Seen
seen_of N T rs = record { unchained = unchained N rs; mismeasured = mismeasured N rs; late = late N T rs; total = total rs }

-- a row is not as long as it says
abbrev pub mismeasured_row : Network → Row → Bool
mismeasured_row N r = not (eqb r.length (duration N r.links))

-- a row has not arrived with the horizon T
abbrev pub late_row : Network → ℕ → Row → Bool
late_row N T r = ltb (counting T) (ends N r)

-- with one row more
abbrev pub seen_with : Network → ℕ → Seen → Row → Seen
seen_with N T seen r = record {
  unchained = seen.unchained || stray_row N r;
  mismeasured = seen.mismeasured || mismeasured_row N r;
  late = seen.late || late_row N T r;
  total = seen.total + r.rate * r.departures;
}
