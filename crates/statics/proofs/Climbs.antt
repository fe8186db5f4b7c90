-- What a chain whose links climb in rank is. Assumes nothing.
use mathlib.Core.List.{List, [], ◌∷◌}
use Prim.Native.Nat.{ℕ, ◌<◌}
use Rattle.flows.specs.Network.{Network, link}

-- every link leads to a place of higher rank
abbrev pub Climbs : Network → (ℕ → ℕ) → List ℕ → Type 0
Climbs N rank [] = Unit {0}
Climbs N rank (e ∷ es) = (rank (link N e).start < rank (link N e).end) × Climbs N rank es
