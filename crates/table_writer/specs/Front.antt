-- What the code's parts answer: the front of a struct's table.
use Rattle.std.specs.Prelude.{List, ◌∷◌, ℕ}
use Rattle.network.specs.declared.Network.{Network}
use Rattle.network.specs.Record.{link_numbers}
use Rattle.network.specs.Held.{links_below}

-- the front of a struct's table, in record order:
-- the struct's first four numbers and its first n links
unfoldable pub front : Network → ℕ → List ℕ
front net n = net.places ∷ net.origin ∷ net.destination ∷ net.count ∷ link_numbers (links_below net n)
