-- `cuts::bound` meets its contract. The loop's invariant: the sum is the bound over the links passed. Assumes nothing.
use mathlib.Core.Path.{◌≡◌}
use mathlib.Core.List.{List}
use Prim.Native.Nat.{ℕ, ◌*◌, ◌≤◌, ◌^◌}
use lib.ListN.{take}
use Rattle.network.specs.declared.Network.{Network}
use Rattle.network.specs.Held.{model_of}
use Rattle.cuts.proofs.Links.{bound_below}
use Rattle.cuts.proofs.bound.Given as goal

-- the sum over the links below e
pub record Summed (net : Network) (cut : List ℕ) (n total e : ℕ) : Type 0 where
  pub within : e ≤ n
  pub few : n ≤ 256
  pub is : total ≡ bound_below (model_of net) (take net.places cut) e
  pub small : total ≤ 2 ^ 46 * e

abbrev pub invariant-loop-link : goal.invariant-loop-link
invariant-loop-link l = Summed l.network l.cut l.network.count l.sum l.link-index
