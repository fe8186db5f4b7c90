-- The uses of a plan's rows, filed by their links, and the test of link loads that looks only at the slots in which a use begins. Use j of
-- row i has the number 63 * i + j: its first slot, departures and rate are its row's, and `lags` has how many slots after the row's first
-- slot it begins. The uses of a link are a chain of numbers, each written as one more: `head` begins the chain of each link, `prev` goes on
-- from each number, and 0 ends it.
use Rattle.std.specs.Prelude.{◌≡◌, Bool, cond, List, [], ◌∷◌, ◌++◌, ℕ, zero, suc, ◌+◌, ◌*◌, ◌/◌, ◌≤◌, ◌<◌, length, get_or, ltb}
use Rattle.limits.specs.Limits.{most_links, most_rows, most_row_links, latest_first, most_departures}
use Rattle.flows.specs.Sums.{only, some}
use Rattle.flows.specs.declared.Link.{Link}
use Rattle.flows.specs.Network.{Network, no_link}
use Rattle.flows.specs.Rows.{Row, Use, uses_of, all_uses, enters}
use Rattle.flows.specs.Plan.{overloaded}
use Rattle.network.specs.declared.Network as network
use Rattle.network.specs.Held.{link_at, model_of}
use Rattle.plans.specs.declared.Row as plans
use Rattle.plans.specs.Held.{row_of}
use Rattle.row_uses.specs.Given.{GivenRow}

-- the most uses of a plan within the limits
abbrev pub most_uses : ℕ
most_uses = most_rows * most_row_links

-- what holds the uses: `prev` and `lags` have a number for each use, the others one for each row
pub record Columns : Type 0 where
  pub prev : List ℕ
  pub lags : List ℕ
  pub firsts : List ℕ
  pub departures : List ℕ
  pub rates : List ℕ

abbrev pub columns : List ℕ → List ℕ → List ℕ → List ℕ → List ℕ → Columns
columns prev lags firsts departures rates = record { prev = prev; lags = lags; firsts = firsts; departures = departures; rates = rates }

-- the slot in which the use k begins
abbrev pub entry_in : Columns → ℕ → ℕ
entry_in c k = get_or c.firsts (k / most_row_links) 0 + get_or c.lags k 0

-- the use k, of the link e
abbrev pub use_in : Columns → ℕ → ℕ → Use
use_in c e k = record {
  link = e;
  entry = entry_in c k;
  rate = get_or c.rates (k / most_row_links) 0;
  departures = get_or c.departures (k / most_row_links) 0;
}

-- ---- chains

-- the sum of g over the first numbers of the chain that begins at k, as many as `steps`
unfoldable pub along : List ℕ → (ℕ → ℕ) → ℕ → ℕ → ℕ
along prev g zero k = 0
along prev g (suc steps) zero = 0
along prev g (suc steps) (suc at) = g at + along prev g steps (get_or prev at 0)

-- the sum of g over the chain that begins at k: its numbers fall, so that it has at most k
abbrev pub chain : List ℕ → (ℕ → ℕ) → ℕ → ℕ
chain prev g k = along prev g k k

-- ---- the load of a link whose chain begins at k

-- what the use m puts into its link in a slot
abbrev pub puts : Columns → ℕ → ℕ → ℕ
puts c slot m = enters (use_in c 0 m) 0 slot

abbrev pub load_on : Columns → ℕ → ℕ → ℕ
load_on c k slot = chain c.prev (puts c slot) k

-- 1 where more than the capacity enters the link in the slot in which its use m begins, else 0
abbrev pub over : Columns → ℕ → ℕ → ℕ → ℕ
over c capacity k m = cond (ltb capacity (load_on c k (entry_in c m))) 1 0

-- some use of the link has a 1
unfoldable pub over_on : Columns → ℕ → ℕ → Bool
over_on c capacity k = ltb 0 (chain c.prev (over c capacity k) k)

-- some link below n has such a use
unfoldable pub any_over : Columns → List Link → List ℕ → ℕ → Bool
any_over c links head n = some (λ e. over_on c (get_or links e no_link).capacity (get_or head e 0)) n

-- ---- columns that hold uses

-- as many uses as the rows have for which there is room
abbrev pub uses_room : List ℕ → ℕ
uses_room firsts = most_row_links * length firsts

-- there is room for the uses of as many rows as there are first slots, and for no more lags
pub record Room (c : Columns) : Type 0 where
  pub few : length c.firsts ≤ most_rows
  pub for_prev : uses_room c.firsts ≤ length c.prev
  pub for_lags : uses_room c.firsts ≤ length c.lags
  pub no_more_lags : length c.lags ≤ uses_room c.firsts
  pub for_departures : length c.firsts ≤ length c.departures
  pub for_rates : length c.firsts ≤ length c.rates

-- chains fall, and slots are within the limits
pub record Orderly (c : Columns) : Type 0 where
  pub falls : (k : ℕ) → get_or c.prev k 0 ≤ k
  pub firsts_most : (i : ℕ) → get_or c.firsts i 0 ≤ latest_first
  pub departures_most : (i : ℕ) → get_or c.departures i 0 ≤ most_departures

-- a weight summed over uses
unfoldable pub weigh : (Use → ℕ) → List Use → ℕ
weigh w [] = 0
weigh w (u ∷ us) = w u + weigh w us

-- the numbers below n hold these uses: whatever a use weighs, each link's chain weighs what the uses of the link do
pub record Filed (c : Columns) (head : List ℕ) (n : ℕ) (us : List Use) : Type 0 where
  pub orderly : Orderly c
  pub heads : (e : ℕ) → get_or head e 0 ≤ n
  pub weighs : (w : Use → ℕ) (e : ℕ) → e < most_links
      → chain c.prev (λ k. w (use_in c e k)) (get_or head e 0) ≡ weigh (λ u. only u.link e (w u)) us

-- row i is filed behind whatever the rows below it left
abbrev pub FilesRow : Network → Row → ℕ → Columns → List ℕ → Columns → List ℕ → Type 0
FilesRow N r i c₀ head₀ c head =
    (us : List Use) → Filed c₀ head₀ (most_row_links * i) us → Filed c head (most_row_links * (i + 1)) (us ++ uses_of N r)

-- so for every network that has the row's links, with the transits of these
abbrev pub FilesRowBy : List Link → plans.Row → ℕ → Columns → List ℕ → Columns → List ℕ → Type 0
FilesRowBy links r i c₀ head₀ c head =
    (net : network.Network) → ((e : ℕ) → (link_at net e).transit ≡ (get_or links e no_link).transit) → GivenRow net r → FilesRow (model_of net) (row_of r) i c₀ head₀ c head

-- where the uses of rows are filed, the answer tells whether some link takes in more than its capacity in some slot
abbrev pub TellsOverload : Network → Columns → List ℕ → Bool → Type 0
TellsOverload N c head r = (n : ℕ) (rs : List Row) → Filed c head n (all_uses N rs) → r ≡ overloaded N rs
