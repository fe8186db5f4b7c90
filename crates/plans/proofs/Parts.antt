-- A row and a plan that are accepted, taken apart into the numbers that were read one after another, and put together from them.
-- Assumes nothing.
use mathlib.Core.Path.{◌≡◌, refl, sym, subst, ◌∙◌}
use mathlib.Core.List.{List, [], ◌∷◌, ◌++◌}
use Prim.Native.Nat.{ℕ, zero, suc, ◌-◌, ◌≤◌, ◌<◌}
use native.Mathlib.Omega.{arith}
use lib.ListN.{length, get_or}
use Rattle.limits.specs.Limits.{least_amount, most_amount, least_plan_horizon, fewest_rows, most_rows, fewest_row_links, most_row_links, longest_length, least_rate, most_rate, least_departures, longest_plan_horizon, most_cut_number, latest_first, most_departures}
use Rattle.refusals.specs.declared.Refusal.TheVariants.{PlanRemains}
use Rattle.numbers.specs.Field.{accepted, and_then, complete}
use Rattle.numbers.proofs.Fields.{field_accepted}
use Rattle.numbers.proofs.Parses.{then_accepted, accepted_value, accepted_rest, complete_accepted}
use Rattle.numbers.proofs.Many.{behind_same, Proper, then_proper, complete_proper, field_proper, many, fields_many, Run, many_run, run_many, run_length, run_each, many_proper}
use Rattle.flows.specs.Rows.{Row}
use Rattle.flows.specs.Plan.{Plan}
use Rattle.plans.specs.Record.{number_refusals, number, read_numbers, read_tail, read_row, read_rows, read_plan}
use Rattle.plans.specs.InLimits.{Within, RowInLimits, InLimits, past_row}

----- A number

number_proper : (low high : ℕ) (s : List ℕ) → Proper s (number low high s)
number_proper = field_proper number_refusals

pub number_within : (low high : ℕ) (s : List ℕ) (n : ℕ) (rest : List ℕ) → number low high s ≡ accepted n rest → Within low high n
number_within low high s n rest h =
    let a = field_accepted number_refusals low high s n rest h in
    record { low = a.low; high = a.high }

----- Numbers

pub numbers_run : (n low high : ℕ) (s ns rest : List ℕ) → read_numbers n low high s [] ≡ accepted ns rest → Run (number low high) n s ns rest
numbers_run n low high s ns rest h =
    let f = many_run (number low high) n s [] ns rest (sym (fields_many number_refusals n low high s []) ∙ h) in
    rw f.split f.run

pub run_numbers : (n low high : ℕ) (s ns rest : List ℕ) → Run (number low high) n s ns rest → read_numbers n low high s [] ≡ accepted ns rest
run_numbers n low high s ns rest r = fields_many number_refusals n low high s [] ∙ run_many (number low high) [] r

pub numbers_proper : (n low high : ℕ) (s : List ℕ) → Proper s (read_numbers n low high s [])
numbers_proper n low high s = rw fields_many (many_proper (number low high) (number_proper low high) n s [])

pub run_within : (low high n : ℕ) (s ns rest : List ℕ) → Run (number low high) n s ns rest → (i : ℕ) → i < length ns → Within low high (get_or ns i 0)
run_within low high n s ns rest r = run_each (number low high) (Within low high) (number_within low high) r 0

----- A row

pub record RowParts (links : ℕ) (s : List ℕ) (r : Row) (rest : List ℕ) : Type 0 where
  pub s₁ : List ℕ
  pub s₂ : List ℕ
  pub s₃ : List ℕ
  pub s₄ : List ℕ
  pub s₅ : List ℕ
  pub count : number fewest_row_links most_row_links s ≡ accepted (length r.links) s₁
  pub chain : Run (number 0 (links - 1)) (length r.links) s₁ r.links s₂
  pub long : number 0 longest_length s₂ ≡ accepted r.length s₃
  pub rate : number least_rate most_rate s₃ ≡ accepted r.rate s₄
  pub first : number 0 latest_first s₄ ≡ accepted r.first s₅
  pub departures : number least_departures most_departures s₅ ≡ accepted r.departures rest

pub row_parts : (links : ℕ) (s : List ℕ) (r : Row) (rest : List ℕ) → read_row links s ≡ accepted r rest → RowParts links s r rest
unfolding read_row read_tail
row_parts links s r rest h =
    let a = then_accepted _ _ r rest h in
    let b = then_accepted _ _ r rest a.3 in
    let c = then_accepted _ _ r rest b.3 in
    let d = then_accepted _ _ r rest c.3 in
    let e = then_accepted _ _ r rest d.3 in
    let f = then_accepted _ _ r rest e.3 in
    let q : record { links = b.0; length = c.0; rate = d.0; first = e.0; departures = f.0 } ≡ r = accepted_value f.3 in
    let o : f.1 ≡ rest = accepted_rest f.3 in
    let u = numbers_run a.0 0 (links - 1) a.1 b.0 b.1 b.2 in
    let l : length b.0 ≡ a.0 = run_length (number 0 (links - 1)) u in
    subst (RowParts links s r) o
    (subst (λ (x : Row). RowParts links s x f.1) q
    (record {
      s₁ = a.1;
      s₂ = b.1;
      s₃ = c.1;
      s₄ = d.1;
      s₅ = e.1;
      count = rw l a.2;
      chain = rw l u;
      long = c.2;
      rate = d.2;
      first = e.2;
      departures = f.2;
    }))

pub parts_row : (links : ℕ) (s : List ℕ) (r : Row) (rest : List ℕ) → RowParts links s r rest → read_row links s ≡ accepted r rest
unfolding read_row read_tail and_then
parts_row links s r rest p =
    rw (p.count, run_numbers (length r.links) 0 (links - 1) p.s₁ r.links p.s₂ p.chain, p.long, p.rate, p.first, p.departures)

pub row_in_limits : (links : ℕ) (s : List ℕ) (r : Row) (rest : List ℕ) → 1 ≤ links → read_row links s ≡ accepted r rest → RowInLimits links r
row_in_limits links s r rest l h =
    let p = row_parts links s r rest h in
    record {
      count = number_within fewest_row_links most_row_links s (length r.links) p.s₁ p.count;
      numbers = λ i b. omega (arith, (run_within 0 (links - 1) (length r.links) p.s₁ r.links p.s₂ p.chain i b).high);
      long = (number_within 0 longest_length p.s₂ r.length p.s₃ p.long).high;
      rate = number_within least_rate most_rate p.s₃ r.rate p.s₄ p.rate;
      first = (number_within 0 latest_first p.s₄ r.first p.s₅ p.first).high;
      departures = number_within least_departures most_departures p.s₅ r.departures rest p.departures;
    }

pub row_proper : (links : ℕ) (s : List ℕ) → Proper s (read_row links s)
unfolding read_row read_tail
row_proper links s =
    then_proper s _ _ (number_proper fewest_row_links most_row_links s) λ n s.
    then_proper s _ _ (numbers_proper n 0 (links - 1) s) λ es s.
    then_proper s _ _ (number_proper 0 longest_length s) λ long s.
    then_proper s _ _ (number_proper least_rate most_rate s) λ rate s.
    then_proper s _ _ (number_proper 0 latest_first s) λ first s.
    then_proper s _ _ (number_proper least_departures most_departures s) λ departures s.
    behind_same s

----- Rows

pub rows_many : (n links : ℕ) (s : List ℕ) (before : List Row) → read_rows n links s before ≡ many (read_row links) n s before
unfolding read_rows many
rows_many zero links s before = refl
rows_many (suc n) links s before = λ j. and_then (read_row links s) λ r t. rows_many n links t (before ++ (r ∷ [])) j

pub rows_run : (n links : ℕ) (s : List ℕ) (rs : List Row) (rest : List ℕ) → read_rows n links s [] ≡ accepted rs rest → Run (read_row links) n s rs rest
rows_run n links s rs rest h =
    let f = many_run (read_row links) n s [] rs rest (sym (rows_many n links s []) ∙ h) in
    rw f.split f.run

pub run_rows : (n links : ℕ) (s : List ℕ) (rs : List Row) (rest : List ℕ) → Run (read_row links) n s rs rest → read_rows n links s [] ≡ accepted rs rest
run_rows n links s rs rest r = rows_many n links s [] ∙ run_many (read_row links) [] r

pub rows_proper : (n links : ℕ) (s : List ℕ) → Proper s (read_rows n links s [])
rows_proper n links s = rw rows_many (many_proper (read_row links) (row_proper links) n s [])

----- A plan

-- an accepted plan leaves no octets
pub record PlanParts (places links : ℕ) (s : List ℕ) (p : Plan) : Type 0 where
  pub s₁ : List ℕ
  pub s₂ : List ℕ
  pub s₃ : List ℕ
  pub s₄ : List ℕ
  pub amount : number least_amount most_amount s ≡ accepted p.amount s₁
  pub horizon : number least_plan_horizon longest_plan_horizon s₁ ≡ accepted p.horizon s₂
  pub cut : Run (number 0 most_cut_number) places s₂ p.cut s₃
  pub count : number fewest_rows most_rows s₃ ≡ accepted (length p.rows) s₄
  pub rows : Run (read_row links) (length p.rows) s₄ p.rows []

module _ (places links : ℕ) (s : List ℕ) (p : Plan) where
  pub plan_parts : (rest : List ℕ) → read_plan places links s ≡ accepted p rest → (rest ≡ []) × PlanParts places links s p
  unfolding read_plan
  plan_parts rest h =
      let a = then_accepted _ _ p rest h in
      let b = then_accepted _ _ p rest a.3 in
      let c = then_accepted _ _ p rest b.3 in
      let d = then_accepted _ _ p rest c.3 in
      let e = then_accepted _ _ p rest d.3 in
      let t = complete_accepted PlanRemains (record { amount = a.0; horizon = b.0; cut = c.0; rows = e.0 }) p e.1 rest e.3 in
      let u = rows_run d.0 links d.1 e.0 e.1 e.2 in
      let l : length e.0 ≡ d.0 = run_length (read_row links) u in (
        t.2,
        subst (PlanParts places links s) t.0
            (record {
              s₁ = a.1;
              s₂ = b.1;
              s₃ = c.1;
              s₄ = d.1;
              amount = a.2;
              horizon = b.2;
              cut = numbers_run places 0 most_cut_number b.1 c.0 c.1 c.2;
              count = rw l d.2;
              rows = rw l (subst (Run (read_row links) d.0 d.1 e.0) t.1 u);
            }),
      )

  pub parts_plan : PlanParts places links s p → read_plan places links s ≡ accepted p []
  unfolding read_plan and_then complete
  parts_plan q =
      rw (q.amount, q.horizon, run_numbers places 0 most_cut_number q.s₂ p.cut q.s₃ q.cut, q.count, run_rows (length p.rows) links q.s₄ p.rows [] q.rows)

  -- what reading accepts is within the record's limits, and no octets remain
  pub plan_in_limits : (rest : List ℕ) → 1 ≤ links → read_plan places links s ≡ accepted p rest → InLimits places links p
  plan_in_limits rest l h =
      let q = (plan_parts rest h).1 in
      record {
        amount = number_within least_amount most_amount s p.amount q.s₁ q.amount;
        horizon = number_within least_plan_horizon longest_plan_horizon q.s₁ p.horizon q.s₂ q.horizon;
        one_per_place = run_length (number 0 most_cut_number) q.cut;
        cut = λ v b. (run_within 0 most_cut_number places q.s₂ p.cut q.s₃ q.cut v b).high;
        count = number_within fewest_rows most_rows q.s₃ (length p.rows) q.s₄ q.count;
        rows = run_each (read_row links) (RowInLimits links) (λ t r rest. row_in_limits links t r rest l) q.rows past_row;
      }

  pub plan_no_rest : (rest : List ℕ) → read_plan places links s ≡ accepted p rest → rest ≡ []
  plan_no_rest rest h = (plan_parts rest h).0

pub plan_proper : (places links : ℕ) (s : List ℕ) → Proper s (read_plan places links s)
unfolding read_plan
plan_proper places links s =
    then_proper s _ _ (number_proper least_amount most_amount s) λ amount s.
    then_proper s _ _ (number_proper least_plan_horizon longest_plan_horizon s) λ horizon s.
    then_proper s _ _ (numbers_proper places 0 most_cut_number s) λ cut s.
    then_proper s _ _ (number_proper fewest_rows most_rows s) λ n s.
    then_proper s _ _ (rows_proper n links s) λ rows s.
    complete_proper PlanRemains _ s
