-- A row's line in the listing.
use Rattle.std.specs.Prelude.{List, [], ◌∷◌, ◌++◌, map, ℕ}
use Rattle.flows.specs.Rows.{Row}
use Rattle.texts.specs.Decimal.{decimal}
use Rattle.texts.specs.Words as words
use Rattle.texts.specs.Lines.{line}

unfoldable pub row_line : ℕ → Row → List ℕ
row_line i r =
    line words.row
    (decimal i
    ∷ words.links
    ∷ (map decimal r.links
    ++ (words.rate ∷ decimal r.rate ∷ words.first ∷ decimal r.first ∷ words.departures ∷ decimal r.departures ∷ [])))
