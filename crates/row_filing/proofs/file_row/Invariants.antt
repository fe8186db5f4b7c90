-- `row_filing::file_row` meets its contract. The loop's invariant: behind what was filed stand the uses of the links passed. Assumes nothing.
use mathlib.Core.Path.{◌≡◌}
use mathlib.Core.List.{List}
use Prim.Native.Nat.{ℕ, ◌+◌, ◌*◌, ◌≤◌}
use lib.ListN.{length, get_or, take}
use Rattle.flows.specs.declared.Link.{Link}
use Rattle.flows.specs.Network.{no_link}
use Rattle.flows.specs.Rows.{Use, duration}
use Rattle.network.specs.declared.Network.{Network}
use Rattle.network.specs.Held.{link_at, model_of}
use Rattle.plans.specs.declared.Row.{Row}
use Rattle.plans.specs.Held.{row_of}
use Rattle.row_uses.specs.Given.{GivenRow}
use Rattle.row_uses.specs.Uses.{Columns, columns, Filed}
use Rattle.row_uses.proofs.Filing.{with_row_links}
use Rattle.limits.specs.Limits.{most_transit}
use Rattle.row_filing.proofs.file_row.Given as goal

-- for a network: behind what was filed stand the uses of the row's first j links, and the lag is how long they take
pub record Behind (net : Network) (row : Row) (i : ℕ) (c₀ : Columns) (head₀ : List ℕ) (c : Columns) (head : List ℕ) (lag j : ℕ) : Type 0 where
  pub lag-is : lag ≡ duration (model_of net) (take j (row_of row).links)
  pub filed : (us : List Use) → Filed c₀ head₀ (63 * i) us → Filed c head (63 * i + j) (with_row_links net row us j)

-- the row's first j links are filed
pub record Filing (links : List Link) (row : Row) (i : ℕ) (c₀ : Columns) (head₀ : List ℕ) (c : Columns) (head : List ℕ) (lag j : ℕ) : Type 0 where
  pub lag-most : lag ≤ most_transit * j
  pub is-first : get_or c.firsts i 0 ≡ row.first
  pub is-departures : get_or c.departures i 0 ≡ row.departures
  pub is-rate : get_or c.rates i 0 ≡ row.rate
  pub prev-kept : length c.prev ≡ length c₀.prev
  pub lags-kept : length c.lags ≡ length c₀.lags
  pub heads-kept : length head ≡ length head₀
  pub behind : (net : Network) → ((e : ℕ) → (link_at net e).transit ≡ (get_or links e no_link).transit) → GivenRow net row → Behind net row i c₀ head₀ c head lag j

abbrev pub invariant-loop-j : goal.invariant-loop-j
invariant-loop-j l =
    Filing l.links l.row l.i (columns l.initial.prev l.initial.lags l.firsts l.departures l.rates) l.initial.head (columns l.prev l.lags l.firsts l.departures l.rates) l.head l.lag l.j
