-- The uses of one link, listed once in the order in which they begin and once in the order in which they end.
use Rattle.std.specs.Prelude.{◌≡◌, Bool, cond, List, ℕ, ◌+◌, ◌*◌, ◌/◌, ◌^◌, ◌≤◌, ◌<◌, length, get_or, leb}
use Rattle.limits.specs.Limits.{most_row_links}
use Rattle.flows.specs.Sums.{sum}
use Rattle.row_uses.specs.Uses.{uses_room, columns, over_on, Orderly}
use Rattle.use_lists.specs.Lists.{Listed}
use Rattle.sweeps.specs.declared.Ended.{Ended}

-- the slot after each row's last departure, before the lags of its uses
pub record LastsOf (firsts departures lasts : List ℕ) : Type 0 where
  pub rows : length firsts ≤ length lasts
  pub small : (i : ℕ) → get_or lasts i 0 ≤ 2 ^ 31
  pub are : (i : ℕ) → i < length firsts → get_or lasts i 0 ≡ get_or firsts i 0 + get_or departures i 0

-- ---- sums of rates

-- the rate of a use
abbrev pub rate_of : List ℕ → ℕ → ℕ
rate_of rates k = get_or rates (k / most_row_links) 0

-- the rates of the first n uses of a list
abbrev pub rates_to : List ℕ → List ℕ → ℕ → ℕ
rates_to rates xs n = sum (λ i. rate_of rates (get_or xs i 0)) n

-- a rate from a slot on
abbrev pub from : ℕ → ℕ → ℕ → ℕ
from begin rate slot = cond (leb begin slot) rate 0

-- the rates of those of the first n uses whose key is not above a slot
abbrev pub rates_by : (ℕ → ℕ) → List ℕ → List ℕ → ℕ → ℕ → ℕ
rates_by key rates xs n slot = sum (λ i. from (key (get_or xs i 0)) (rate_of rates (get_or xs i 0)) slot) n

-- ---- the uses that have ended

-- of n uses in the order of their ends some first ones are passed
pub record Ending (key : ℕ → ℕ) (rates xs : List ℕ) (n : ℕ) (slot : ℕ) (e : Ended) : Type 0 where
  pub within : e.passed ≤ n
  pub summed : e.rates ≡ rates_to rates xs e.passed
  pub small : e.rates ≤ 2 ^ 32 * e.passed
  pub ended : (i : ℕ) → i < e.passed → key (get_or xs i 0) ≤ slot

-- all that have ended by the slot
pub record EndedAt (key : ℕ → ℕ) (rates xs : List ℕ) (n : ℕ) (slot : ℕ) (e : Ended) : Type 0 where
  pub ending : Ending key rates xs n slot e
  pub next : e.passed < n → slot < key (get_or xs e.passed 0)

-- ---- the sweep

-- where the uses of the chain that begins at k are listed in both orders, the answer tells whether some use of it begins in a slot in which more than
-- the capacity enters the link
abbrev pub TellsOver : ℕ → ℕ → List ℕ → List ℕ → List ℕ → List ℕ → List ℕ → List ℕ → Bool → Type 0
TellsOver capacity n starts ends lags firsts lasts rates r =
    (prev departures : List ℕ) (k : ℕ) → k ≤ uses_room firsts → Orderly (columns prev lags firsts departures rates) → LastsOf firsts departures lasts
    → Listed prev k starts n → Listed prev k ends n
    → r ≡ over_on (columns prev lags firsts departures rates) capacity k
