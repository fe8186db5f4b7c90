-- "For every accepted network and amount, the least horizon when a block must leave a middle place in the very slot in which it arrives
-- equals the least horizon with unlimited waiting. The same .. of the most by a horizon": accepted networks are well_formed, and holding
-- gains nothing in any of those. Assumes nothing.
use mathlib.Core.Path.{◌≡◌}
use mathlib.Core.Logic.{◌↔◌}
use mathlib.Core.List.{List}
use Prim.Native.Nat.{ℕ}
use Rattle.numbers.specs.Field.{accepted}
use Rattle.flows.specs.Network.{Network}
use Rattle.flows.specs.Flow.{Least, Most}
use Rattle.flows.specs.Holding.{LeastUnheld, MostUnheld}
use Rattle.statics.proofs.Holding.{least_unheld, most_unheld}
use Rattle.network.specs.Record.{read_network}
use Rattle.network.proofs.WellFormed.{well_formed}

module _ (octets : List ℕ) (N : Network) (rest : List ℕ) (reads : read_network octets ≡ accepted N rest) where
  pub accepted_least : (amount T : ℕ) → Least N amount T ↔ LeastUnheld N amount T
  accepted_least = least_unheld (well_formed octets N rest reads).connects

  pub accepted_most : (H m : ℕ) → Most N H m ↔ MostUnheld N H m
  accepted_most = most_unheld (well_formed octets N rest reads).connects
