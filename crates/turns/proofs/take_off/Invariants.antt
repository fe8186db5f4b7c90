-- Taking the rate off the links still to come makes of what is left what it makes of the flow over the whole route.
use Rattle.std.proofs.Common.{◌≡◌, List, ℕ, length, drop}
use Rattle.limits.specs.Limits.{most_links}
use Rattle.turns.specs.Turn.{lessened, Holds}
use Rattle.turns.proofs.take_off.Given as goal

pub record Taking (links : List ℕ) (rate : ℕ) (flow left : List ℕ) (i : ℕ) : Type 0 where
  pub size : length left ≡ most_links
  pub same : lessened flow rate links ≡ lessened left rate (drop i links)
  pub holds : Holds left rate (drop i links)

abbrev pub invariant-loop-link : goal.invariant-loop-link
invariant-loop-link l = Taking l.links l.rate l.initial.left l.left l.link-index
