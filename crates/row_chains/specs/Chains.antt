-- Whether a row is a chain, by the links that its test is lent: it is so for every network whose links have these ends and that has the row's links.
use Rattle.std.specs.Prelude.{◌≡◌, Bool, not, List, ℕ, get_or}
use Rattle.flows.specs.declared.Link.{Link}
use Rattle.flows.specs.Network.{no_link}
use Rattle.flows.specs.Network as model
use Rattle.flows.specs.Rows as model_rows
use Rattle.flows.specs.Plan.{leads}
use Rattle.network.specs.declared.Network.{Network}
use Rattle.network.specs.Held.{link_at, model_of}
use Rattle.plans.specs.declared.Row.{Row}
use Rattle.plans.specs.Held.{row_of}
use Rattle.row_uses.specs.Given.{GivenRow}

-- a row is no chain from origin to destination
abbrev pub stray_row : model.Network → model_rows.Row → Bool
stray_row N r = not (leads N N.origin N.destination r.links)

-- a network's origin and destination, and the starts and ends of its links: how many of them count is open, and so are capacities and transits
pub record Ends (net : Network) (origin destination : ℕ) (links : List Link) : Type 0 where
  pub is_origin : net.origin ≡ origin
  pub is_destination : net.destination ≡ destination
  pub is_start : (e : ℕ) → (link_at net e).start ≡ (get_or links e no_link).start
  pub is_end : (e : ℕ) → (link_at net e).end ≡ (get_or links e no_link).end

abbrev pub LeadsBy : ℕ → ℕ → List Link → Row → Bool → Type 0
LeadsBy origin destination links row r =
    (net : Network) → Ends net origin destination links → GivenRow net row → r ≡ leads (model_of net) origin destination (row_of row).links

abbrev pub StraysBy : ℕ → ℕ → List Link → Row → Bool → Type 0
StraysBy origin destination links row r =
    (net : Network) → Ends net origin destination links → GivenRow net row → r ≡ stray_row (model_of net) (row_of row)
