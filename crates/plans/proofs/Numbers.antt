-- A number list determines its plan, where the number of places is known, as it is from the network: each part is as long as the
-- numbers before it say, so that equal lists have equal parts. Assumes nothing.
use mathlib.Core.Path.{◌≡◌, refl, sym, ap, ◌∙◌}
use mathlib.Core.List.{List, [], ◌∷◌, ◌++◌, append_assoc}
use Prim.Native.Nat.{ℕ}
use native.Mathlib.Omega.{arith}
use lib.ListN.{length, get_or, take, drop}
use lib.Seq.{take_at, drop_at}
use Rattle.flows.specs.Rows.{Row}
use Rattle.flows.specs.Plan.{Plan}
use Rattle.plans.specs.Record.{row_numbers, rows_numbers, numbers_of}

-- equal lists whose fronts are equally long
same_front : (xs ys us vs : List ℕ) → length xs ≡ length ys → xs ++ us ≡ ys ++ vs → xs ≡ ys
same_front xs ys us vs n h = sym (take_at xs us (length xs) refl) ∙ ap (take (length xs)) h ∙ take_at ys vs (length xs) (sym n)

same_rest : (xs ys us vs : List ℕ) → length xs ≡ length ys → xs ++ us ≡ ys ++ vs → us ≡ vs
same_rest xs ys us vs n h = sym (drop_at xs us (length xs) refl) ∙ ap (drop (length xs)) h ∙ drop_at ys vs (length xs) (sym n)

-- a row's numbers at the front of a list
row_determined : (r q : Row) (us vs : List ℕ) → row_numbers r ++ us ≡ row_numbers q ++ vs → (r ≡ q) × (us ≡ vs)
row_determined r q us vs h =
    let n : length r.links ≡ length q.links = ap (λ (x : List ℕ). get_or x 0 0) h in
    let after : Row → List ℕ → List ℕ = λ x more. x.length ∷ x.rate ∷ x.first ∷ x.departures ∷ more in
    let t : r.links ++ after r us ≡ q.links ++ after q vs =
    sym (append_assoc r.links (after r []) us) ∙ ap (drop 1) h ∙ append_assoc q.links (after q []) vs in
    let links : r.links ≡ q.links = same_front r.links q.links (after r us) (after q vs) n t in
    let e : after r us ≡ after q vs = same_rest r.links q.links (after r us) (after q vs) n t in
    let long : r.length ≡ q.length = ap (λ (x : List ℕ). get_or x 0 0) e in
    let rate : r.rate ≡ q.rate = ap (λ (x : List ℕ). get_or x 1 0) e in
    let first : r.first ≡ q.first = ap (λ (x : List ℕ). get_or x 2 0) e in
    let departures : r.departures ≡ q.departures = ap (λ (x : List ℕ). get_or x 3 0) e in
    (λ j. record { links = links j; length = long j; rate = rate j; first = first j; departures = departures j }, ap (drop 4) e)

rows_determined : (rs qs : List Row) → length rs ≡ length qs → rows_numbers rs ≡ rows_numbers qs → rs ≡ qs
rows_determined [] [] n h = refl
rows_determined [] (q ∷ qs) n h = absurd (omega arith)
rows_determined (r ∷ rs) [] n h = absurd (omega arith)
rows_determined (r ∷ rs) (q ∷ qs) n h =
    let d = row_determined r q (rows_numbers rs) (rows_numbers qs) h in
    let e : rs ≡ qs = rows_determined rs qs (omega arith) d.1 in
    λ j. d.0 j ∷ e j

-- "one number per place": the cuts of two plans for one network are equally long
pub numbers_determine : (p q : Plan) → length p.cut ≡ length q.cut → numbers_of p ≡ numbers_of q → p ≡ q
numbers_determine p q n h =
    let after : Plan → List ℕ = λ x. length x.rows ∷ rows_numbers x.rows in
    let t : p.cut ++ after p ≡ q.cut ++ after q = ap (drop 2) h in
    let amount : p.amount ≡ q.amount = ap (λ (x : List ℕ). get_or x 0 0) h in
    let horizon : p.horizon ≡ q.horizon = ap (λ (x : List ℕ). get_or x 1 0) h in
    let cut : p.cut ≡ q.cut = same_front p.cut q.cut (after p) (after q) n t in
    let e : after p ≡ after q = same_rest p.cut q.cut (after p) (after q) n t in
    let rows : p.rows ≡ q.rows = rows_determined p.rows q.rows (ap (λ (x : List ℕ). get_or x 0 0) e) (ap (drop 1) e) in
    λ j. record { amount = amount j; horizon = horizon j; cut = cut j; rows = rows j }
