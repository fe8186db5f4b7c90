-- "Plan record: amount; T, from 1 to 100,063,000; the cut for T - 1, one number per place, each up to 100,063,000; the number of rows;
-- then each row: number of links, the link numbers", "its length, 0 to 63,000", "rate, first slot (from 0), departures (from 1), the last
-- two up to 100,063,000." From the amount on; what stands before it is Carried.
-- Reading: "number by number: 16 fourth octet continues, 14 record ends, 15 not shortest, 17 outside its limits (a link number not
-- below the number of links too); 18 octets remain".
use Rattle.std.specs.Prelude.{List, [], ◌∷◌, ◌++◌, ℕ, zero, suc, ◌-◌, length}
use Rattle.limits.specs.Limits.{least_amount, most_amount, least_plan_horizon, fewest_rows, most_rows, fewest_row_links, most_row_links, longest_length, least_rate, most_rate, least_departures, longest_plan_horizon, most_cut_number, latest_first, most_departures}
use Rattle.refusals.specs.declared.Refusal.{Refusal}
use Rattle.refusals.specs.declared.Refusal.TheVariants.{PlanEnds, PlanNotShortest, PlanContinues, PlanLimits, PlanRemains}
use Rattle.numbers.specs.declared.Refusals.{Refusals}
use Rattle.numbers.specs.Leb128.{encode}
use Rattle.numbers.specs.Field.{Parse, accepted, and_then, field, fields, complete}
use Rattle.flows.specs.Rows.{Row}
use Rattle.flows.specs.Plan.{Plan}

abbrev pub number_refusals : Refusals Refusal
number_refusals = record { endless = PlanContinues; ended = PlanEnds; padded = PlanNotShortest; outside = PlanLimits }

abbrev pub number : ℕ → ℕ → List ℕ → Parse ℕ
number low high s = field number_refusals low high s

abbrev pub read_numbers : ℕ → ℕ → ℕ → List ℕ → List ℕ → Parse (List ℕ)
read_numbers n low high s before = fields number_refusals n low high s before

-- a row with these links, from its length on
unfoldable pub read_tail : List ℕ → List ℕ → Parse Row
read_tail es s =
    and_then (number 0 longest_length s) λ length s.
    and_then (number least_rate most_rate s) λ rate s.
    and_then (number 0 latest_first s) λ first s.
    and_then (number least_departures most_departures s) λ departures s.
    accepted (record { links = es; length = length; rate = rate; first = first; departures = departures }) s

-- a row of a plan for a network with this number of links
unfoldable pub read_row : ℕ → List ℕ → Parse Row
read_row links s =
    and_then (number fewest_row_links most_row_links s) λ n s.
    and_then (read_numbers n 0 (links - 1) s []) λ es s. read_tail es s

-- "rows are taken one after another from the octets that remain"
unfoldable pub read_rows : ℕ → ℕ → List ℕ → List Row → Parse (List Row)
read_rows zero links s before = accepted before s
read_rows (suc n) links s before = and_then (read_row links s) λ r s. read_rows n links s (before ++ (r ∷ []))

-- a plan for a network with these numbers of places and links
unfoldable pub read_plan : ℕ → ℕ → List ℕ → Parse Plan
read_plan places links s =
    and_then (number least_amount most_amount s) λ amount s.
    and_then (number least_plan_horizon longest_plan_horizon s) λ horizon s.
    and_then (read_numbers places 0 most_cut_number s []) λ cut s.
    and_then (number fewest_rows most_rows s) λ n s.
    and_then (read_rows n links s []) λ rows s.
    complete PlanRemains (record { amount = amount; horizon = horizon; cut = cut; rows = rows }) s

-- a row's numbers in record order
abbrev pub row_numbers : Row → List ℕ
row_numbers r = length r.links ∷ (r.links ++ (r.length ∷ r.rate ∷ r.first ∷ r.departures ∷ []))

abbrev pub rows_numbers : List Row → List ℕ
rows_numbers [] = []
rows_numbers (r ∷ rs) = row_numbers r ++ rows_numbers rs

-- a plan's numbers in record order
abbrev pub numbers_of : Plan → List ℕ
numbers_of p = p.amount ∷ p.horizon ∷ (p.cut ++ (length p.rows ∷ rows_numbers p.rows))

-- a plan's record from the amount on
unfoldable pub record_of : Plan → List ℕ
record_of p = encode (numbers_of p)
