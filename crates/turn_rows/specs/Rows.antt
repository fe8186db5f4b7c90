-- The one or two rows of a turn, which carry what is sent over its chain.
use Rattle.std.specs.Prelude.{List, [], ◌∷◌, ◌++◌, ℕ, zero, suc}
use Rattle.flows.specs.Network.{Network}
use Rattle.flows.specs.Rows.{Row, duration}

-- a row that has d departures, or d blocks a slot: it is left out if these are none
abbrev pub kept : ℕ → Row → List Row
kept zero r = []
kept (suc d) r = r ∷ []

-- the departures at the whole rate, from slot 0 on
abbrev pub whole_row : Network → List ℕ → ℕ → ℕ → Row
whole_row N es rate departures = record { links = es; length = duration N es; rate = rate; first = 0; departures = departures }

-- the last blocks, in the slot after these departures
abbrev pub last_row : Network → List ℕ → ℕ → ℕ → Row
last_row N es departures last = record { links = es; length = duration N es; rate = last; first = departures; departures = 1 }

-- the rows of a turn
abbrev pub turn_rows : Network → List ℕ → ℕ → ℕ → ℕ → List Row
turn_rows N es rate departures last = kept departures (whole_row N es rate departures) ++ kept last (last_row N es departures last)
