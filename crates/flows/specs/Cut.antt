-- "Cut" (document 000, definition 9, brought to our clock): a number for each place, and the bound that it gives.
-- In the field's terms the numbers are potentials (dual variables), and the slack is a negated reduced cost.
use Rattle.std.specs.Prelude.{◌≡◌, List, ℕ, ◌*◌, ◌≤◌, ◌<◌, ℤ, pos, negsuc, ◌-ℤ◌, length, get_or}
use Rattle.flows.specs.Sums.{sum}
use Rattle.flows.specs.Clock.{counting}
use Rattle.flows.specs.Network.{Network, link, count}

-- the number of a place
abbrev pub number : List ℕ → ℕ → ℕ
number π v = get_or π v 0

-- "gives each place a number from 0 to H: the origin 0, the archive H"
pub record IsCut (N : Network) (H : ℕ) (π : List ℕ) : Type 0 where
  pub size : length π ≡ N.places
  pub at_origin : number π N.origin ≡ 0
  pub at_destination : number π N.destination ≡ counting H
  pub at_most : (v : ℕ) → v < N.places → number π v ≤ counting H

-- "the number at its end less the number at its start less its transit"
abbrev pub slack_of : ℕ → ℕ → ℕ → ℤ
slack_of end start transit = pos end -ℤ pos start -ℤ pos transit

unfoldable pub slack : Network → List ℕ → ℕ → ℤ
slack N π e = slack_of (number π (link N e).end) (number π (link N e).start) (link N e).transit

-- "may be below zero and then counts as 0"
abbrev pub counted : ℤ → ℕ
counted (pos n) = n
counted (negsuc n) = 0

-- "the sum over links of capacity × slack"
unfoldable pub bound : Network → List ℕ → ℕ
bound N π = sum (λ e. (link N e).capacity * counted (slack N π e)) (count N)
