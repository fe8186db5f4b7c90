-- What a row shows by the links that its tests are lent: it is so for every network whose links have these ends and transits and that has the
-- row's links.
use Rattle.std.specs.Prelude.{◌≡◌, List, ℕ, get_or}
use Rattle.flows.specs.declared.Link.{Link}
use Rattle.flows.specs.Network.{no_link}
use Rattle.network.specs.declared.Network.{Network}
use Rattle.network.specs.Held.{link_at, model_of}
use Rattle.plans.specs.declared.Row.{Row}
use Rattle.plans.specs.Held.{row_of}
use Rattle.row_uses.specs.Given.{GivenRow}
use Rattle.row_chains.specs.Chains.{Ends}
use Rattle.row_tests.specs.declared.Seen.{Seen}
use Rattle.row_tests.specs.Seen.{seen_with}

abbrev pub SeenBy : ℕ → ℕ → List Link → ℕ → Seen → Row → Seen → Type 0
SeenBy origin destination links T seen row r =
    (net : Network) → Ends net origin destination links → ((e : ℕ) → (link_at net e).transit ≡ (get_or links e no_link).transit) → GivenRow net row
    → r ≡ seen_with (model_of net) T seen (row_of row)
