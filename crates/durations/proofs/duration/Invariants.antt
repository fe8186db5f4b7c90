-- `durations::duration` meets its contract: the sum so far is what the links so far last. Assumes nothing.
use mathlib.Core.Path.{◌≡◌}
use mathlib.Core.List.{List}
use Prim.Native.Nat.{ℕ, ◌*◌, ◌≤◌}
use lib.ListN.{take}
use Rattle.limits.specs.Limits.{most_transit}
use Rattle.flows.specs.declared.Link.{Link}
use Rattle.durations.specs.Lasting.{lasting}
use Rattle.durations.proofs.duration.Given as goal

-- the transits of the first j links, summed
pub record Summed (table : List Link) (links : List ℕ) (sum j : ℕ) : Type 0 where
  pub sums : sum ≡ lasting table (take j links)
  pub most : sum ≤ most_transit * j

abbrev pub invariant-loop-link : goal.invariant-loop-link
invariant-loop-link l = Summed l.table l.links l.length l.link-index
