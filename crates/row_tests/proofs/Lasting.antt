-- A row's links, all of them links of the network, last their duration. Assumes nothing.
use mathlib.Core.Path.{◌≡◌, refl}
use mathlib.Core.List.{List, [], ◌∷◌}
use Prim.Native.Nat.{ℕ, ◌<◌}
use native.Mathlib.Omega.{arith}
use lib.ListN.{get_or}
use Rattle.flows.specs.declared.Link.{Link}
use Rattle.flows.specs.Network.{count, no_link}
use Rattle.flows.specs.Rows.{duration}
use Rattle.flows.proofs.Lists.{all_of}
use Rattle.network.specs.declared.Network.{Network}
use Rattle.network.specs.Held.{model_of}
use Rattle.network.proofs.Links.{is_link}
use Rattle.plans.specs.declared.Row.{Row}
use Rattle.plans.specs.Held.{row_of}
use Rattle.durations.specs.Lasting.{lasting}
use Rattle.durations.proofs.Lasting.{lasting_is}
use Rattle.row_uses.specs.Given.{GivenRow}
use Rattle.row_uses.proofs.Given.{links_length, links_at}

-- links last as long by every table with their transits
pub lasting_same : (table other : List Link) → ((e : ℕ) → (get_or other e no_link).transit ≡ (get_or table e no_link).transit) → (es : List ℕ)
    → lasting table es ≡ lasting other es
lasting_same table other same [] = refl
lasting_same table other same (e ∷ es) = omega (arith, same e, lasting_same table other same es)

module _ (net : Network) (r : Row) (given : GivenRow net r) where
  pub row_lasting : lasting net.links (row_of r).links ≡ duration (model_of net) (row_of r).links
  row_lasting =
      lasting_is net (row_of r).links
      (all_of (λ e. e < count (model_of net)) (row_of r).links 0 λ j h.
      let k : j < r.count = omega (arith, links_length r given.stands) in
      omega (arith, links_at r given.stands j k, is_link net (get_or r.links j 0) (given.known j k)))
