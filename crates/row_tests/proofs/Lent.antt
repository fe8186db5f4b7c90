-- What a row shows by the links of a network it shows of that network. Assumes nothing.
use mathlib.Core.Path.{◌≡◌, refl}
use Prim.Native.Nat.{ℕ}
use Rattle.network.specs.declared.Network.{Network}
use Rattle.network.specs.Held.{model_of}
use Rattle.plans.specs.declared.Row.{Row}
use Rattle.plans.specs.Held.{row_of}
use Rattle.row_uses.specs.Given.{GivenRow}
use Rattle.row_tests.specs.declared.Seen.{Seen}
use Rattle.row_tests.specs.Seen.{seen_with}
use Rattle.row_tests.specs.Lent.{SeenBy}

pub seen_of_lent : (net : Network) (T : ℕ) (seen : Seen) (row : Row) (r : Seen) → SeenBy net.origin net.destination net.links T seen row r → GivenRow net row
    → r ≡ seen_with (model_of net) T seen (row_of row)
seen_of_lent net T seen row r by given =
    by net (record { is_origin = refl; is_destination = refl; is_start = λ e. refl; is_end = λ e. refl }) (λ e. refl) given
