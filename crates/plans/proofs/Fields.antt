-- The fields of a plan's struct, in record order, are the numbers of the plan that it holds: of the struct made from a plan, and of
-- the plan made from a struct. Row by row. Assumes nothing.
use mathlib.Core.Path.{◌≡◌, refl, sym, ap, ◌∙◌}
use mathlib.Core.List.{List, [], ◌∷◌, ◌++◌, map, map-append}
use Prim.Native.Nat.{ℕ, zero, suc, ◌-◌, ◌≤◌, ◌<◌}
use native.Mathlib.Omega.{arith}
use lib.ListN.{length, get_or, take, replicate, length-append, length-map, length-replicate}
use lib.Seq.{length-take-le, take-suc, take_at, get_or-take}
use Rattle.limits.specs.Limits.{most_places, most_rows, most_row_links}
use Rattle.flows.specs.Rows as rows
use Rattle.flows.specs.Plan as model
use Rattle.plans.specs.declared.Row.{Row}
use Rattle.plans.specs.declared.Plan.{Plan}
use Rattle.plans.specs.Record.{row_numbers, rows_numbers, numbers_of}
use Rattle.plans.specs.Held.{held_row, no_row, held, row_of, past, rows_below, model_of}
use Rattle.plans.specs.InLimits.{InLimits, past_row}
use Rattle.plans.specs.WritablePlan.{Countable}
use Rattle.plans.specs.Fields.{row_fields, rows_fields, fields_of, Arrays}
use Rattle.plans.proofs.Model.{length_rows, take_padded, count_held, row_held}
use Rattle.plans.proofs.FiveParts.{row_whole}

----- The struct of a plan

pub held_row_fields : (r : rows.Row) → row_fields (held_row r) ≡ row_numbers r
unfolding held_row
held_row_fields r =
    ap (λ (es : List ℕ). length r.links ∷ (es ++ (r.length ∷ r.rate ∷ r.first ∷ r.departures ∷ []))) (take_padded most_row_links r.links (length r.links) refl)

held_rows_fields : (rs : List rows.Row) → rows_fields (map held_row rs) ≡ rows_numbers rs
held_rows_fields [] = refl
held_rows_fields (r ∷ rs) = λ j. held_row_fields r j ++ held_rows_fields rs j

pub held_fields : (p : model.Plan) (places : ℕ) → length p.cut ≡ places → fields_of places (held p) ≡ numbers_of p
unfolding held
held_fields p places e =
    let cut : take places (held p).cut ≡ p.cut = take_padded most_places p.cut places e in
    let n : length (map held_row p.rows) ≡ length p.rows = length-map p.rows held_row in
    let front : take (length p.rows) (held p).rows ≡ map held_row p.rows =
    take_at (map held_row p.rows) (replicate (most_rows - length p.rows) no_row) (length p.rows) n in
    let all : rows_fields (take (length p.rows) (held p).rows) ≡ rows_numbers p.rows = ap rows_fields front ∙ held_rows_fields p.rows in
    λ j. p.amount ∷ p.horizon ∷ (cut j ++ (length p.rows ∷ all j))

-- its arrays are as long as they must be
links_held_row : (r : rows.Row) → length r.links ≤ most_row_links → length (held_row r).links ≡ most_row_links
unfolding held_row
links_held_row r h = rw (length-append, length-replicate) (omega arith)

rows_held_length : (p : model.Plan) → length p.rows ≤ most_rows → length (held p).rows ≡ most_rows
unfolding held
rows_held_length p h = rw (length-append, length-map, length-replicate) (omega arith)

pub held_arrays : (places links : ℕ) (p : model.Plan) → InLimits places links p → Arrays (held p)
held_arrays places links p w = record {
  rows = rows_held_length p w.count.high;
  links = λ i h.
      let l : i < length p.rows = omega (arith, count_held p) in
      rw (row_held p i l) (links_held_row (get_or p.rows i past_row) (w.rows i l).count.high);
}

----- The plan of a struct

pub row_fields_lem : (r : Row) → r.count ≤ length r.links → row_numbers (row_of r) ≡ row_fields r
row_fields_lem r h = row_whole r h

rows_fields_lem : (rs : List Row) → ((i : ℕ) → i < length rs → (get_or rs i past).count ≤ length (get_or rs i past).links)
    → rows_numbers (map (λ (r : Row). row_of r) rs) ≡ rows_fields rs
rows_fields_lem [] h = refl
rows_fields_lem (r ∷ rs) h = λ j. row_fields_lem r (h 0 (omega arith)) j ++ rows_fields_lem rs (λ i l. h (suc i) (omega arith)) j

-- the first rows of a struct, as a list
rows_below_lem : (plan : Plan) (n : ℕ) → n ≤ length plan.rows → rows_below plan n ≡ map (λ (r : Row). row_of r) (take n plan.rows)
rows_below_lem plan zero h = refl
rows_below_lem plan (suc n) h =
    let r : Row = get_or plan.rows n past in
    ap (λ (rs : List rows.Row). rs ++ (row_of r ∷ [])) (rows_below_lem plan n (omega arith))
    ∙ sym (map-append (λ (r : Row). row_of r) (take n plan.rows) (r ∷ []))
    ∙ ap (map (λ (r : Row). row_of r)) (sym (take-suc plan.rows n past (omega arith)))

pub model_fields : (places : ℕ) (plan : Plan) → Arrays plan → Countable plan → numbers_of (model_of places plan) ≡ fields_of places plan
unfolding model_of
model_fields places plan a c =
    let n : plan.count ≤ length plan.rows = omega (arith, a.rows, c.count) in
    let each : (i : ℕ) → i < length (take plan.count plan.rows)
    → (get_or (take plan.count plan.rows) i past).count ≤ length (get_or (take plan.count plan.rows) i past).links =
    λ i h.
    let l : i < plan.count = omega (arith, length-take-le plan.count plan.rows n) in
    rw (get_or-take plan.count plan.rows i past l) (omega (arith, c.links i l, a.links i l)) in
    let all : rows_numbers (rows_below plan plan.count) ≡ rows_fields (take plan.count plan.rows) =
    ap rows_numbers (rows_below_lem plan plan.count n) ∙ rows_fields_lem (take plan.count plan.rows) each in
    λ j. plan.amount ∷ plan.horizon ∷ (take places plan.cut ++ (length_rows plan plan.count j ∷ all j))
