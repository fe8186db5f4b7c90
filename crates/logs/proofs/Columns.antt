-- The entries of a log that was read are as the tests ask. Assumes nothing.
use mathlib.Core.Path.{◌≡◌, refl}
use mathlib.Core.List.{List}
use Prim.Native.Nat.{ℕ, ◌≤◌, ◌<◌}
use native.Mathlib.Omega.{arith}
use lib.ListN.{length}
use Rattle.limits.specs.Limits.{most_links, most_transit}
use Rattle.flows.specs.Network.{WellFormed}
use Rattle.network.specs.declared.Network.{Network}
use Rattle.network.specs.Held.{link_at, model_of}
use Rattle.network.proofs.Links.{links_few, transit_most}
use Rattle.logs.specs.declared.Entry.{Entry}
use Rattle.logs.specs.Columns.{link_of, slot_of, blocks_of, Given}
use Rattle.logs.proofs.Tests.{Columns, Sound}

pub columns_in : (es : List Entry) → Columns es (link_of es) (slot_of es) (blocks_of es)
columns_in es = record { link_is = λ i p. refl; slot_is = λ i p. refl; blocks_is = λ i p. refl }

pub sound_in : (es : List Entry) (links m : ℕ) → links ≡ m → Given links es → Sound m (length es) (link_of es) (slot_of es)
sound_in es links m e g = record { known = λ i p. omega (arith, g.known i p); ordered = g.ordered }

-- an entry's link stands in the network's array, and its transit is within the limit
module _ (net : Network) (es : List Entry) (formed : WellFormed (model_of net)) (given : Given net.count es) (i : ℕ) (more : i < length es) where
  pub linked : link_of es i < most_links
  linked = omega (arith, given.known i more, links_few net formed)

  pub short : (link_at net (link_of es i)).transit ≤ most_transit
  short = transit_most net (link_of es i) (given.known i more) formed
