-- What the load test has in hand on its way.
use Rattle.std.specs.Prelude.{◌≡◌, false, List, ℕ, ◌<◌, get_or}
use Rattle.flows.specs.declared.Link.{Link}
use Rattle.flows.specs.Network.{no_link}
use Rattle.row_uses.specs.Uses.{Columns, over_on}

-- no link below e takes in more than its capacity in a slot in which a use of it begins
abbrev pub NoneBelow : Columns → List Link → List ℕ → ℕ → Type 0
NoneBelow c links head e = (d : ℕ) → d < e → over_on c (get_or links d no_link).capacity (get_or head d 0) ≡ false
