-- The plan that a struct holds, row by row: by recursion over the rows below a number, and element by element for the struct of a
-- plan. Assumes nothing.
use mathlib.Core.Path.{◌≡◌, refl, ap, ◌∙◌}
use mathlib.Core.List.{List, [], ◌∷◌, map}
use Prim.Native.Nat.{ℕ, zero, suc, ◌+◌, ◌-◌, ◌<◌}
use native.Mathlib.Omega.{arith}
use native.Mathlib.Decide.{dec_lt}
use lib.ListN.{length, get_or, take, replicate, length-append, length-map, get_or-append, get_or-eq_default}
use lib.Seq.{take_at, get_or_at, get_or-append-add, ext_get_or}
use Rattle.limits.specs.Limits.{most_places, most_rows, most_row_links}
use Rattle.flows.specs.Rows as rows
use Rattle.flows.specs.Plan as model
use Rattle.flows.proofs.Lists.{get_or_zeros}
use Rattle.plans.specs.declared.Row.{Row}
use Rattle.plans.specs.declared.Plan.{Plan}
use Rattle.plans.specs.Held.{padded, held_row, no_row, held, row_of, past, rows_below, model_of}
use Rattle.plans.specs.InLimits.{past_row}

----- The rows of a struct

pub length_rows : (plan : Plan) (n : ℕ) → length (rows_below plan n) ≡ n
length_rows plan zero = refl
length_rows plan (suc n) = length-append (rows_below plan n) (row_of (get_or plan.rows n past) ∷ []) ∙ omega (arith, length_rows plan n)

pub get_d_rows : (plan : Plan) (n i : ℕ) → i < n → get_or (rows_below plan n) i past_row ≡ row_of (get_or plan.rows i past)
get_d_rows plan zero i h = absurd (omega arith)
get_d_rows plan (suc n) i h =
    let r : rows.Row = row_of (get_or plan.rows n past) in
    elim (dec_lt i n) [
      | yes l ↦ get_or-append (rows_below plan n) (r ∷ []) past_row i (omega (arith, length_rows plan n)) ∙ get_d_rows plan n i l
      | no g ↦ let q : i ≡ n = omega arith in rw q (get_or_at (rows_below plan n) r [] past_row n (length_rows plan n))
    ]

-- the parts of the plan that a struct holds
module _ (places : ℕ) (plan : Plan) where
  pub amount_model : (model_of places plan).amount ≡ plan.amount
  unfolding model_of
  amount_model = refl

  pub horizon_model : (model_of places plan).horizon ≡ plan.horizon
  unfolding model_of
  horizon_model = refl

  pub cut_model : (model_of places plan).cut ≡ take places plan.cut
  unfolding model_of
  cut_model = refl

  pub rows_model : (model_of places plan).rows ≡ rows_below plan plan.count
  unfolding model_of
  rows_model = refl

  pub length_rows_model : length (model_of places plan).rows ≡ plan.count
  unfolding model_of
  length_rows_model = length_rows plan plan.count

  pub row_model : (i : ℕ) → i < plan.count → get_or (model_of places plan).rows i past_row ≡ row_of (get_or plan.rows i past)
  unfolding model_of
  row_model i h = get_d_rows plan plan.count i h

----- The struct of a plan

-- zeros stand where no number does
pub get_or_padded : (n : ℕ) (xs : List ℕ) (i : ℕ) → get_or (padded n xs) i 0 ≡ get_or xs i 0
get_or_padded n xs i = elim (dec_lt i (length xs)) [
  | yes l ↦ get_or-append xs (replicate (n - length xs) 0) 0 i l
  | no g ↦
      let q : length xs + (i - length xs) ≡ i = omega arith in
      let e : get_or xs i 0 ≡ 0 = get_or-eq_default xs 0 {n = i} (omega arith) in
      rw (e, ← q, get_or-append-add) (get_or_zeros (n - length xs) (i - length xs))
]

-- the numbers that an array begins with
pub take_padded : (n : ℕ) (xs : List ℕ) (k : ℕ) → length xs ≡ k → take k (padded n xs) ≡ xs
take_padded n xs k e = take_at xs (replicate (n - length xs) 0) k e

get_d_map : {A B : Type 0} (f : A → B) (xs : List A) (i : ℕ) (a : A) (b : B) → i < length xs → get_or (map f xs) i b ≡ f (get_or xs i a)
get_d_map f [] i a b h = absurd (omega arith)
get_d_map f (x ∷ xs) zero a b h = refl
get_d_map f (x ∷ xs) (suc i) a b h = get_d_map f xs i a b (omega arith)

pub row_held_row : (r : rows.Row) → row_of (held_row r) ≡ r
unfolding held_row
row_held_row r =
    let e : take (length r.links) (padded most_row_links r.links) ≡ r.links = take_padded most_row_links r.links (length r.links) refl in
    λ j. record { links = e j; length = r.length; rate = r.rate; first = r.first; departures = r.departures }

module _ (p : model.Plan) where
  pub amount_held : (held p).amount ≡ p.amount
  unfolding held
  amount_held = refl

  pub horizon_held : (held p).horizon ≡ p.horizon
  unfolding held
  horizon_held = refl

  pub cut_held : (held p).cut ≡ padded most_places p.cut
  unfolding held
  cut_held = refl

  pub count_held : (held p).count ≡ length p.rows
  unfolding held
  count_held = refl

  pub row_held : (i : ℕ) → i < length p.rows → get_or (held p).rows i past ≡ held_row (get_or p.rows i past_row)
  unfolding held
  row_held i h =
      get_or-append (map held_row p.rows) (replicate (most_rows - length p.rows) no_row) past i (rw length-map (omega arith))
      ∙ get_d_map held_row p.rows i past_row past h

  -- the rows that the struct of a plan holds are the plan's
  pub rows_held : rows_below (held p) (length p.rows) ≡ p.rows
  rows_held =
      ext_get_or past_row (rows_below (held p) (length p.rows)) p.rows (length_rows (held p) (length p.rows))
      (λ i h.
      let l : i < length p.rows = omega (arith, length_rows (held p) (length p.rows)) in
      get_d_rows (held p) (length p.rows) i l ∙ ap (λ (r : Row). row_of r) (row_held i l) ∙ row_held_row (get_or p.rows i past_row))

  -- a plan with a number for each place is the plan that its struct holds
  pub model_held : (places : ℕ) → length p.cut ≡ places → model_of places (held p) ≡ p
  unfolding model_of
  model_held places e =
      let c : take places (held p).cut ≡ p.cut = rw cut_held (take_padded most_places p.cut places e) in
      let r : rows_below (held p) (held p).count ≡ p.rows = ap (rows_below (held p)) count_held ∙ rows_held in
      λ j. record { amount = amount_held j; horizon = horizon_held j; cut = c j; rows = r j }
