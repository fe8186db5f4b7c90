-- "Row": a chain of links from origin to archive, its length, a rate, a first slot and a number of departures, and what rows put into
-- each link in each slot. In the field's terms a chain is a walk, a row a path flow over time.
use Rattle.std.specs.Prelude.{◌≡◌, List, [], ◌∷◌, ◌++◌, cond, ◌&&◌, ℕ, ◌+◌, ◌*◌, ◌≤◌, ◌<◌, leb, ltb, eqb}
use Rattle.flows.specs.Lists.{All}
use Rattle.flows.specs.Clock.{counting}
use Rattle.flows.specs.Network.{Network, link, count}

-- the links es, each starting where the one before it ends, lead from the place u to the place w
abbrev pub Leads : Network → ℕ → ℕ → List ℕ → Type 0
Leads N u w [] = u ≡ w
Leads N u w (e ∷ es) = (e < count N) × ((link N e).start ≡ u) × Leads N (link N e).end w es

-- "a chain of links (one or more ..)": the origin and the archive differ, so a chain between them has a link
abbrev pub IsChain : Network → List ℕ → Type 0
IsChain N es = Leads N N.origin N.destination es

-- "its length is the sum of its transits"; `length` is the list's
abbrev pub duration : Network → List ℕ → ℕ
duration N [] = 0
duration N (e ∷ es) = (link N e).transit + duration N es

-- `length` is the one that a plan writes; nothing that a row does hangs on it
pub record Row : Type 0 where
  pub links : List ℕ
  pub length : ℕ
  pub rate : ℕ
  pub first : ℕ
  pub departures : ℕ

-- the slot after which all blocks of a row have arrived: first slot + departures + length
abbrev pub ends : Network → Row → ℕ
ends N r = r.first + r.departures + duration N r.links

-- a use of a link: rate blocks enter it in each slot from the entry slot on, as many slots as departures
pub record Use : Type 0 where
  pub link : ℕ
  pub entry : ℕ
  pub rate : ℕ
  pub departures : ℕ

-- the uses of the links es, the first of them entered from slot s on: "each block takes every next link in the slot in which it
-- arrives"
abbrev pub uses_from : Network → ℕ → ℕ → ℕ → List ℕ → List Use
uses_from N rate departures s [] = []
uses_from N rate departures s (e ∷ es) =
    record { link = e; entry = s; rate = rate; departures = departures } ∷ uses_from N rate departures (s + (link N e).transit) es

abbrev pub uses_of : Network → Row → List Use
uses_of N r = uses_from N r.rate r.departures r.first r.links

-- the uses of all rows
abbrev pub all_uses : Network → List Row → List Use
all_uses N [] = []
all_uses N (r ∷ rs) = uses_of N r ++ all_uses N rs

-- what a use puts into the link e in slot s
unfoldable pub enters : Use → ℕ → ℕ → ℕ
enters u e s = cond (eqb u.link e && (leb u.entry s && ltb s (u.entry + u.departures))) u.rate 0

-- what uses put into the link e in slot s
abbrev pub entering : List Use → ℕ → ℕ → ℕ
entering [] e s = 0
entering (u ∷ us) e s = enters u e s + entering us e s

-- "what enters a link in a slot is the sum of the rates over all rows and uses that enter it then"
unfoldable pub load : Network → List Row → ℕ → ℕ → ℕ
load N rs e s = entering (all_uses N rs) e s

-- the rows' rate × departures, summed
abbrev pub total : List Row → ℕ
total [] = 0
total (r ∷ rs) = r.rate * r.departures + total rs

-- every row is a chain from origin to archive
abbrev pub Chained : Network → List Row → Type 0
Chained N rs = All (λ r. IsChain N r.links) rs

-- the length written in every row is the sum of its transits
abbrev pub Measured : Network → List Row → Type 0
Measured N rs = All (λ r. r.length ≡ duration N r.links) rs

-- every row has arrived before slot k
abbrev pub EndedBy : Network → ℕ → List Row → Type 0
EndedBy N k rs = All (λ r. ends N r ≤ k) rs

-- every row has arrived with horizon T
abbrev pub Timely : Network → ℕ → List Row → Type 0
Timely N T rs = EndedBy N (counting T) rs
