-- Chains and the places that they reach: "visits no place twice", and "no chain of links with capacity of at least 1 leads from
-- origin to archive" (refusal 12).
use Rattle.std.specs.Prelude.{List, [], ◌∷◌, ℕ, ◌+◌, ◌≤◌, length}
use Rattle.limits.specs.Limits.{most_row_links}
use Rattle.flows.specs.Sums.{only}
use Rattle.flows.specs.Lists.{All}
use Rattle.flows.specs.Network.{Network, link}
use Rattle.flows.specs.Rows.{IsChain, Row}

-- how often the chain es uses the link e
abbrev pub uses : List ℕ → ℕ → ℕ
uses [] e = 0
uses (l ∷ es) e = only l e 1 + uses es e

-- how often the chain es from the place w on visits the place u: at w, and where each of its links ends
abbrev pub visits : Network → ℕ → List ℕ → ℕ → ℕ
visits N w [] u = only w u 1
visits N w (e ∷ es) u = only w u 1 + visits N (link N e).end es u

-- "visits no place twice", the origin and the archive neither
abbrev pub Simple : Network → List ℕ → Type 0
Simple N es = (u : ℕ) → visits N N.origin es u ≤ 1

-- no row visits a place twice
abbrev pub SimpleRows : Network → List Row → Type 0
SimpleRows N rs = All (λ r. Simple N r.links) rs

-- every link of the list has a capacity of at least 1
abbrev pub Open : Network → List ℕ → Type 0
Open N es = All (λ e. 1 ≤ (link N e).capacity) es

-- a chain of links with capacity of at least 1 leads from the origin to the destination
pub record Reachable (N : Network) : Type 0 where
  pub chain : List ℕ
  pub leads : IsChain N chain
  pub opens : Open N chain

-- a route: a chain from the origin to the destination over links with capacity of at least 1 that visits no place twice (a simple
-- path), and so is short enough for a row
pub record IsRoute (N : Network) (es : List ℕ) : Type 0 where
  pub chain : IsChain N es
  pub opens : Open N es
  pub simple : Simple N es
  pub short : length es ≤ most_row_links
