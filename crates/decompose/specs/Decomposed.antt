-- A static flow taken apart into rows that deliver just the amount within as many slots.
use Rattle.std.specs.Prelude.{◌≡◌, List, ℕ, ◌≤◌, ◌<◌}
use Rattle.flows.specs.Lists.{All}
use Rattle.flows.specs.Network.{Network, count}
use Rattle.flows.specs.Rows.{Row, IsChain, duration, ends, load, total}
use Rattle.statics.specs.Static.{on_link}
use Rattle.statics.specs.Reach.{Simple}

-- a row that starts and ends right and in time, is as long as it says, and visits no place twice
pub record GoodRow (N : Network) (slots : ℕ) (r : Row) : Type 0 where
  pub chain : IsChain N r.links
  pub measured : r.length ≡ duration N r.links
  pub simple : Simple N r.links
  pub in_time : ends N r ≤ slots

abbrev pub GoodRows : Network → ℕ → List Row → Type 0
GoodRows N slots rs = All (GoodRow N slots) rs

-- rows that put no more into a link in any slot than the static flow x has on it, and together send just the amount
pub record Decomposed (N : Network) (x : List ℕ) (amount slots : ℕ) (rows : List Row) : Type 0 where
  pub good : GoodRows N slots rows
  pub within : (e s : ℕ) → e < count N → load N rows e s ≤ on_link x e
  pub sums : total rows ≡ amount
