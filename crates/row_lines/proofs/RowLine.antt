-- A row's line is put in parts: the parts one after another are the line. Assumes nothing.
use mathlib.Core.Path.{◌≡◌, sym, ap, ◌∙◌}
use mathlib.Core.List.{List, [], ◌∷◌, ◌++◌, map, append_assoc}
use Prim.Native.Nat.{ℕ}
use Rattle.flows.specs.Rows.{Row}
use Rattle.texts.specs.Decimal.{decimal}
use Rattle.texts.specs.Words as words
use Rattle.texts.specs.Put.{all_spaced, ending}
use Rattle.texts.proofs.Spaces.{opens, between, after_numbers}
use Rattle.std.proofs.lemmas.List.{map-id}
use Rattle.row_lines.specs.RowLine.{row_line}

----- The parts of a line, in the order in which they are put

abbrev pub numbered_row : ℕ → List ℕ
numbered_row i = opens words.row ++ decimal i

abbrev pub over_links : List ℕ
over_links = words.space ∷ words.links

abbrev pub of_rate : ℕ → List ℕ
of_rate n = between words.rate ++ decimal n

abbrev pub of_first : ℕ → List ℕ
of_first n = between words.first ++ decimal n

abbrev pub of_departures : ℕ → List ℕ
of_departures n = ending (between words.departures) n

-- the numbers of the links as they are put
abbrev pub of_links : List ℕ → List ℕ
of_links ns = all_spaced (map (λ n. n) ns)

in_order : (a b c d e f : List ℕ) → a ++ (b ++ (c ++ (d ++ (e ++ f)))) ≡ ((((a ++ b) ++ c) ++ d) ++ e) ++ f
in_order a b c d e f = simp append_assoc

pub row_parts : (i : ℕ) (r : Row)
    → row_line i r ≡ ((((numbered_row i ++ over_links) ++ of_links r.links) ++ of_rate r.rate) ++ of_first r.first) ++ of_departures r.departures
unfolding row_line
row_parts i r =
    ap (λ (t : List ℕ). numbered_row i ++ (over_links ++ t))
    (after_numbers r.links (words.rate ∷ decimal r.rate ∷ words.first ∷ decimal r.first ∷ words.departures ∷ decimal r.departures ∷ []))
    ∙ ap (λ (t : List ℕ). numbered_row i ++ (over_links ++ (t ++ (of_rate r.rate ++ (of_first r.first ++ of_departures r.departures))))) (ap all_spaced (sym (map-id r.links)))
    ∙ in_order (numbered_row i) over_links (of_links r.links) (of_rate r.rate) (of_first r.first) (of_departures r.departures)
