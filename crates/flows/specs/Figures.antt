-- "Examples with their figures": the 16 figures marked P, one table. Each entry states one figure of a network and brings the rows
-- and the cut that prove it; with a least horizon it states too that these are a plan that passes.
use Rattle.std.specs.Prelude.{◌≡◌, List, [], ◌∷◌, ℕ}
use Rattle.flows.specs.declared.Link.{Link}
use Rattle.flows.specs.Network.{Network}
use Rattle.flows.specs.Flow.{Least, Most}
use Rattle.flows.specs.Cut.{IsCut, bound}
use Rattle.flows.specs.Rows.{Row}
use Rattle.flows.specs.Plan.{Plan, verdict}

-- what a figure is
pub data Claim : Type 0 where
  -- the most by this horizon
  most_by : ℕ → Claim
  -- the least horizon for this amount
  least_for : ℕ → Claim
  -- the bound of the cut, for this horizon
  bound_for : ℕ → Claim

pub record Figure : Type 0 where
  pub network : Network
  pub claim : Claim
  pub figure : ℕ
  pub rows : List Row
  pub cut : List ℕ

-- the plan of an amount, its horizon, a cut and rows
abbrev pub plan_of : ℕ → ℕ → List Row → List ℕ → Plan
plan_of amount horizon rows cut = record { amount = amount; horizon = horizon; cut = cut; rows = rows }

-- a network, a claim, its figure, rows and a cut, as a statement; "one plan that passes" has the verdict 0
abbrev pub Says : Network → Claim → ℕ → List Row → List ℕ → Type 0
Says N (most_by H) figure rs π = Most N H figure
Says N (least_for amount) figure rs π = Least N amount figure × (verdict N (plan_of amount figure rs π) ≡ 0)
Says N (bound_for H) figure rs π = IsCut N H π × (bound N π ≡ figure)

abbrev pub Stated : Figure → Type 0
Stated g = Says g.network g.claim g.figure g.rows g.cut

-- ---- the networks

abbrev pub link_of : ℕ → ℕ → ℕ → ℕ → Link
link_of start end capacity transit = record { start = start; end = end; capacity = capacity; transit = transit }

-- "Network A, 24 octets, hexadecimal: 04 00 03 05, 00 01 02 01, 01 03 01 01, 01 02 01 01, 02 03 01 02, 00 02 01 03"
abbrev pub A : Network
A = record {
  places = 4;
  origin = 0;
  destination = 3;
  links = link_of 0 1 2 1 ∷ link_of 1 3 1 1 ∷ link_of 1 2 1 1 ∷ link_of 2 3 1 2 ∷ link_of 0 2 1 3 ∷ [];
}

-- "two places, one link, capacity 3, transit 2"
abbrev pub single : Network
single = record { places = 2; origin = 0; destination = 1; links = link_of 0 1 3 2 ∷ [] }

-- "two parallel links, capacities 1, transits 1 and 2"
abbrev pub parallel : Network
parallel = record { places = 2; origin = 0; destination = 1; links = link_of 0 1 1 1 ∷ link_of 0 1 1 2 ∷ [] }

-- ---- their rows

abbrev pub row_of : List ℕ → ℕ → ℕ → ℕ → ℕ → Row
row_of links length rate first departures = record { links = links; length = length; rate = rate; first = first; departures = departures }

-- a row over these links, of this length, one block a slot from slot 0 on
abbrev pub steady : List ℕ → ℕ → ℕ → Row
steady links length departures = row_of links length 1 0 departures

-- A's two chains over its first link, and its cut for each horizon
abbrev pub short : ℕ → Row
short departures = steady (0 ∷ 1 ∷ []) 2 departures

abbrev pub long : ℕ → Row
long departures = steady (0 ∷ 2 ∷ 3 ∷ []) 4 departures

abbrev pub cut_a : ℕ → List ℕ
cut_a H = 0 ∷ 1 ∷ 2 ∷ H ∷ []

-- ---- the table

abbrev pub entry : Network → Claim → ℕ → List Row → List ℕ → Figure
entry network claim figure rows cut = record { network = network; claim = claim; figure = figure; rows = rows; cut = cut }

abbrev pub table : List Figure
table =
    -- "A, most by 2, 3, 4, 5, 6: 0, 1, 2, 4, 6"
    entry A (most_by 2) 0 [] (cut_a 2)
    ∷ entry A (most_by 3) 1 (short 1 ∷ []) (cut_a 3)
    ∷ entry A (most_by 4) 2 (short 2 ∷ []) (cut_a 4)
    ∷ entry A (most_by 5) 4 (short 3 ∷ long 1 ∷ []) (cut_a 5)
    ∷ entry A (most_by 6) 6 (short 4 ∷ long 2 ∷ []) (cut_a 6)
    -- "A, amounts 1, 2, 3, 4, 5: T = 3, 4, 5, 5, 6"
    ∷ entry A (least_for 1) 3 (short 1 ∷ []) (cut_a 2)
    ∷ entry A (least_for 2) 4 (short 2 ∷ []) (cut_a 3)
    ∷ entry A (least_for 3) 5 (short 3 ∷ []) (cut_a 4)
    ∷ entry A (least_for 4) 5 (short 3 ∷ long 1 ∷ []) (cut_a 4)
    ∷ entry A (least_for 5) 6 (short 4 ∷ long 1 ∷ []) (cut_a 5)
    -- "A, cut 0 1 2 4 for horizon 4: bound 2"
    ∷ entry A (bound_for 4) 2 [] (0 ∷ 1 ∷ 2 ∷ 4 ∷ [])
    -- "amount 7: T = 5; one plan that passes has rate 3 twice from slot 0, then rate 1 once in slot 2"
    ∷ entry single (least_for 7) 5 (row_of (0 ∷ []) 2 3 0 2 ∷ row_of (0 ∷ []) 2 1 2 1 ∷ []) (0 ∷ 4 ∷ [])
    -- "most by 1, 2, 3, 4: 0, 1, 3, 5"
    ∷ entry parallel (most_by 1) 0 [] (0 ∷ 1 ∷ [])
    ∷ entry parallel (most_by 2) 1 (steady (0 ∷ []) 1 1 ∷ []) (0 ∷ 2 ∷ [])
    ∷ entry parallel (most_by 3) 3 (steady (0 ∷ []) 1 2 ∷ steady (1 ∷ []) 2 1 ∷ []) (0 ∷ 3 ∷ [])
    ∷ entry parallel (most_by 4) 5 (steady (0 ∷ []) 1 3 ∷ steady (1 ∷ []) 2 2 ∷ []) (0 ∷ 4 ∷ [])
    ∷ []
