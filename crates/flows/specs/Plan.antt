-- A plan, and "Examine a plan": the verdict, "the first that applies".
use Rattle.std.specs.Prelude.{◌≡◌, List, [], ◌∷◌, Bool, false, cond, not, ◌&&◌, ◌||◌, ℕ, ◌+◌, ◌-◌, ◌≤◌, ◌<◌, length, leb, ltb, eqb}
use Rattle.flows.specs.Lists.{All}
use Rattle.flows.specs.Sums.{some}
use Rattle.flows.specs.Clock.{counting}
use Rattle.flows.specs.Network.{Network, link, count}
use Rattle.flows.specs.Cut.{number, IsCut, bound}
use Rattle.limits.specs.Limits.{least_rate, least_departures, least_plan_horizon}
use Rattle.flows.specs.Flow.{IsFlow, delivered}
use Rattle.flows.specs.Rows.{Row, duration, ends, load, total, Chained, Measured}

pub record Plan : Type 0 where
  pub amount : ℕ
  pub horizon : ℕ
  pub cut : List ℕ
  pub rows : List Row

-- of the plan record's limits those on which the verdict leans: "a rate from 1", "departures (from 1)", "T, from 1", and "the cut
-- .., one number per place"
pub record Lawful (N : Network) (p : Plan) : Type 0 where
  pub rates : All (λ r. least_rate ≤ r.rate) p.rows
  pub departures : All (λ r. least_departures ≤ r.departures) p.rows
  pub horizon_least : least_plan_horizon ≤ p.horizon
  pub cut_size : length p.cut ≡ N.places

-- what a plan is to show: its rows are chains from origin to archive, each as long as it says, and a flow with its horizon, "what
-- enters a link in a slot is the sum of the rates over all rows and uses that enter it then"; they deliver its amount; and its cut for
-- T - 1 proves that no flow with a shorter horizon does
pub record Certified (N : Network) (p : Plan) : Type 0 where
  pub chained : Chained N p.rows
  pub measured : Measured N p.rows
  pub flow : IsFlow N p.horizon (load N p.rows)
  pub delivers : delivered N p.horizon (load N p.rows) ≡ p.amount
  pub cuts : IsCut N (p.horizon - 1) p.cut
  pub proves : bound N p.cut < p.amount

-- the links es lead from u to w
abbrev pub leads : Network → ℕ → ℕ → List ℕ → Bool
leads N u w [] = eqb u w
leads N u w (e ∷ es) = ltb e (count N) && (eqb (link N e).start u && leads N (link N e).end w es)

-- a test passes at some row
abbrev pub some_row : (Row → Bool) → List Row → Bool
some_row t [] = false
some_row t (r ∷ rs) = t r || some_row t rs

-- 1: "a row is no chain from origin to archive"
unfoldable pub unchained : Network → List Row → Bool
unchained N rs = some_row (λ r. not (leads N N.origin N.destination r.links)) rs

-- 7, "tested directly after 1": "a written length isn't the sum"
unfoldable pub mismeasured : Network → List Row → Bool
mismeasured N rs = some_row (λ r. not (eqb r.length (duration N r.links))) rs

-- no row enters a link in this slot or later
abbrev pub quiet : Network → List Row → ℕ
quiet N [] = 0
quiet N (r ∷ rs) = ends N r + quiet N rs

-- 2: "some link takes in more than its capacity in some slot, all rows together"
unfoldable pub overloaded : Network → List Row → Bool
overloaded N rs = some (λ e. some (λ s. ltb (link N e).capacity (load N rs e s)) (quiet N rs)) (count N)

-- 3: "a row with first slot + departures + length above T"
unfoldable pub late : Network → ℕ → List Row → Bool
late N T rs = some_row (λ r. ltb (counting T) (ends N r)) rs

-- 4: "the rows' rate × departures don't sum to the amount"
unfoldable pub missummed : ℕ → List Row → Bool
missummed amount rs = not (eqb (total rs) amount)

-- 5: "the cut's numbers at origin or archive are wrong for T - 1, or one is above T - 1"
unfoldable pub miscut : Network → ℕ → List ℕ → Bool
miscut N H π =
    not (eqb (number π N.origin) 0)
    || (not (eqb (number π N.destination) (counting H)) || some (λ v. ltb (counting H) (number π v)) N.places)

-- 6: "its bound isn't below the amount"
unfoldable pub unproven : Network → ℕ → List ℕ → Bool
unproven N amount π = leb amount (bound N π)

unfoldable pub verdict : Network → Plan → ℕ
verdict N p =
    cond (unchained N p.rows) 1
    (cond (mismeasured N p.rows) 7
    (cond (overloaded N p.rows) 2
    (cond (late N p.horizon p.rows) 3
    (cond (missummed p.amount p.rows) 4
    (cond (miscut N (p.horizon - 1) p.cut) 5
    (cond (unproven N p.amount p.cut) 6
    0))))))
