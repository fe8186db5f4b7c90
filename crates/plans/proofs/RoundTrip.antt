-- A plan and its numbers' octets, from the amount on, determine each other, over the steps by which the examiner reads and the planner
-- writes: number by number, each by the fact for one number. `Carried` has the whole record. Assumes nothing.
use mathlib.Core.Path.{◌≡◌, refl, sym, ap, ◌∙◌}
use mathlib.Core.List.{List, [], ◌∷◌, ◌++◌, append_assoc, append-nil}
use Prim.Native.Nat.{ℕ, ◌-◌, ◌^◌, ◌≤◌, ◌<◌}
use native.Mathlib.Omega.{arith}
use lib.ListN.{length, get_or}
use Rattle.limits.specs.Limits.{most_links, least_amount, most_amount, least_plan_horizon, fewest_rows, most_rows, fewest_row_links, most_row_links, longest_length, least_rate, most_rate, least_departures, longest_plan_horizon, most_cut_number, latest_first, most_departures}
use Rattle.numbers.specs.Leb128.{groups, Octets, shortest, encode}
use Rattle.numbers.specs.Field.{accepted}
use Rattle.numbers.proofs.Written.{encode_append}
use Rattle.numbers.proofs.Fields.{field_written, written_field, octets_rest}
use Rattle.numbers.proofs.Many.{together, Run, run_octets, octets_run}
use Rattle.flows.specs.Rows.{Row}
use Rattle.flows.specs.Plan.{Plan}
use Rattle.plans.specs.Record.{number_refusals, number, read_row, read_plan, row_numbers, rows_numbers, record_of}
use Rattle.plans.specs.InLimits.{Within, RowInLimits, InLimits, past_row}
use Rattle.plans.proofs.Parts.{row_parts, parts_row, plan_parts, parts_plan}

----- The octets of numbers, a row and a plan, one number after another

together_numbers : (ns : List ℕ) → together (shortest groups) ns ≡ encode ns
unfolding encode
together_numbers [] = refl
together_numbers (n ∷ ns) = ap (λ (x : List ℕ). shortest groups n ++ x) (together_numbers ns)

abbrev row_octets : Row → List ℕ
row_octets r = encode (row_numbers r)

together_rows : (rs : List Row) → together row_octets rs ≡ encode (rows_numbers rs)
unfolding encode
together_rows [] = refl
together_rows (r ∷ rs) = ap (λ (x : List ℕ). row_octets r ++ x) (together_rows rs) ∙ sym (encode_append (row_numbers r) (rows_numbers rs))

pub row_octets_lem : (r : Row) (rest : List ℕ) → encode (row_numbers r) ++ rest
    ≡ shortest groups (length r.links) ++ (encode r.links ++ (shortest groups r.length ++ (shortest groups r.rate ++ (shortest groups r.first ++ (shortest groups r.departures ++ rest)))))
unfolding encode
row_octets_lem r rest = simp (encode_append, append_assoc)

pub record_octets : (p : Plan) → record_of p
    ≡ shortest groups p.amount ++ (shortest groups p.horizon ++ (encode p.cut ++ (shortest groups (length p.rows) ++ encode (rows_numbers p.rows))))
unfolding encode record_of
record_octets p = simp encode_append

----- What is read was written

number_written : (low high : ℕ) (s : List ℕ) (n : ℕ) (rest : List ℕ) → Octets s → number low high s ≡ accepted n rest → s ≡ shortest groups n ++ rest
number_written low high s n rest o h = written_field number_refusals low high s n rest o h

numbers_written : (low high n : ℕ) (s ns rest : List ℕ) → Octets s → Run (number low high) n s ns rest → s ≡ encode ns ++ rest
numbers_written low high n s ns rest o r = rw (← together_numbers ns) (run_octets (number low high) (shortest groups) (number_written low high) o r)

pub row_written : (links : ℕ) (s : List ℕ) (r : Row) (rest : List ℕ) → Octets s → read_row links s ≡ accepted r rest → s ≡ encode (row_numbers r) ++ rest
row_written links s r rest o h =
    let p = row_parts links s r rest h in
    let e₁ = number_written _ _ s (length r.links) p.s₁ o p.count in
    let o₁ = octets_rest s (shortest groups (length r.links)) p.s₁ e₁ o in
    let e₂ = numbers_written 0 (links - 1) _ p.s₁ r.links p.s₂ o₁ p.chain in
    let o₂ = octets_rest p.s₁ (encode r.links) p.s₂ e₂ o₁ in
    let e₃ = number_written _ _ p.s₂ r.length p.s₃ o₂ p.long in
    let o₃ = octets_rest p.s₂ (shortest groups r.length) p.s₃ e₃ o₂ in
    let e₄ = number_written _ _ p.s₃ r.rate p.s₄ o₃ p.rate in
    let o₄ = octets_rest p.s₃ (shortest groups r.rate) p.s₄ e₄ o₃ in
    let e₅ = number_written _ _ p.s₄ r.first p.s₅ o₄ p.first in
    let o₅ = octets_rest p.s₄ (shortest groups r.first) p.s₅ e₅ o₄ in
    let e₆ = number_written _ _ p.s₅ r.departures rest o₅ p.departures in
    rw row_octets_lem
    (e₁
    ∙ ap (λ (x : List ℕ). shortest groups (length r.links) ++ x)
    (e₂
    ∙ ap (λ (x : List ℕ). encode r.links ++ x)
    (e₃
    ∙ ap (λ (x : List ℕ). shortest groups r.length ++ x)
    (e₄ ∙ ap (λ (x : List ℕ). shortest groups r.rate ++ x) (e₅ ∙ ap (λ (x : List ℕ). shortest groups r.first ++ x) e₆)))))

-- a plan that was read is the plan of its record, whole
pub plan_written : (places links : ℕ) (s : List ℕ) (p : Plan) (rest : List ℕ) → Octets s → read_plan places links s ≡ accepted p rest → s ≡ record_of p
plan_written places links s p rest o h =
    let q = (plan_parts places links s p rest h).1 in
    let e₁ = number_written _ _ s p.amount q.s₁ o q.amount in
    let o₁ = octets_rest s (shortest groups p.amount) q.s₁ e₁ o in
    let e₂ = number_written _ _ q.s₁ p.horizon q.s₂ o₁ q.horizon in
    let o₂ = octets_rest q.s₁ (shortest groups p.horizon) q.s₂ e₂ o₁ in
    let e₃ = numbers_written 0 most_cut_number places q.s₂ p.cut q.s₃ o₂ q.cut in
    let o₃ = octets_rest q.s₂ (encode p.cut) q.s₃ e₃ o₂ in
    let e₄ = number_written _ _ q.s₃ (length p.rows) q.s₄ o₃ q.count in
    let o₄ = octets_rest q.s₃ (shortest groups (length p.rows)) q.s₄ e₄ o₃ in
    let e₅ : q.s₄ ≡ encode (rows_numbers p.rows) =
    run_octets (read_row links) row_octets (row_written links) o₄ q.rows ∙ append-nil (together row_octets p.rows) ∙ together_rows p.rows in
    rw record_octets
    (e₁
    ∙ ap (λ (x : List ℕ). shortest groups p.amount ++ x)
    (e₂ ∙ ap (λ (x : List ℕ). shortest groups p.horizon ++ x) (e₃ ∙ ap (λ (x : List ℕ). encode p.cut ++ x) (e₄ ∙ ap (λ (x : List ℕ). shortest groups (length p.rows) ++ x) e₅))))

----- What is written is read

written_number : (low high n : ℕ) (rest : List ℕ) → high < 128 ^ groups → Within low high n → number low high (shortest groups n ++ rest) ≡ accepted n rest
written_number low high n rest h w = field_written number_refusals low high n rest w.low w.high (omega arith)

written_numbers : (low high : ℕ) (ns rest : List ℕ) → high < 128 ^ groups → ((i : ℕ) → i < length ns → Within low high (get_or ns i 0))
    → Run (number low high) (length ns) (encode ns ++ rest) ns rest
written_numbers low high ns rest h each =
    rw (← together_numbers ns) (octets_run (number low high) (shortest groups) (Within low high) (λ n t w. written_number low high n t h w) 0 ns rest each)

pub written_row : (links : ℕ) (r : Row) (rest : List ℕ) → links ≤ most_links → RowInLimits links r → read_row links (encode (row_numbers r) ++ rest) ≡ accepted r rest
written_row links r rest m w =
    let s₅ : List ℕ = shortest groups r.departures ++ rest in
    let s₄ : List ℕ = shortest groups r.first ++ s₅ in
    let s₃ : List ℕ = shortest groups r.rate ++ s₄ in
    let s₂ : List ℕ = shortest groups r.length ++ s₃ in
    let s₁ : List ℕ = encode r.links ++ s₂ in
    rw row_octets_lem
    (parts_row links (shortest groups (length r.links) ++ s₁) r rest
    (record {
      s₁ = s₁;
      s₂ = s₂;
      s₃ = s₃;
      s₄ = s₄;
      s₅ = s₅;
      count = written_number fewest_row_links most_row_links (length r.links) s₁ (omega arith) w.count;
      chain = written_numbers 0 (links - 1) r.links s₂ (omega arith) (λ i l. record { low = omega arith; high = omega (arith, w.numbers i l) });
      long = written_number 0 longest_length r.length s₃ (omega arith) (record { low = omega arith; high = w.long });
      rate = written_number least_rate most_rate r.rate s₄ (omega arith) w.rate;
      first = written_number 0 latest_first r.first s₅ (omega arith) (record { low = omega arith; high = w.first });
      departures = written_number least_departures most_departures r.departures rest (omega arith) w.departures;
    }))

-- the record of a plan within the limits is read as that plan
pub written_plan : (places links : ℕ) (p : Plan) → links ≤ most_links → InLimits places links p → read_plan places links (record_of p) ≡ accepted p []
written_plan places links p m w =
    let s₄ : List ℕ = encode (rows_numbers p.rows) in
    let s₃ : List ℕ = shortest groups (length p.rows) ++ s₄ in
    let s₂ : List ℕ = encode p.cut ++ s₃ in
    let s₁ : List ℕ = shortest groups p.horizon ++ s₂ in
    let u : Run (read_row links) (length p.rows) s₄ p.rows [] =
    rw (← together_rows p.rows, ← append-nil (together row_octets p.rows))
    (octets_run (read_row links) row_octets (RowInLimits links) (λ r t v. written_row links r t m v) past_row p.rows [] w.rows) in
    rw record_octets
    (parts_plan places links (shortest groups p.amount ++ s₁) p
    (record {
      s₁ = s₁;
      s₂ = s₂;
      s₃ = s₃;
      s₄ = s₄;
      amount = written_number least_amount most_amount p.amount s₁ (omega arith) w.amount;
      horizon = written_number least_plan_horizon longest_plan_horizon p.horizon s₂ (omega arith) w.horizon;
      cut =
          rw (← w.one_per_place)
          (written_numbers 0 most_cut_number p.cut s₃ (omega arith) (λ i l. record { low = omega arith; high = w.cut i l }));
      count = written_number fewest_rows most_rows (length p.rows) s₄ (omega arith) w.count;
      rows = u;
    }))
