-- The invariant at the start, by the laws of nothing on the links. Assumes nothing.
use mathlib.Core.Path.{◌≡◌}
use Prim.Native.Nat.{ℕ}
use native.Mathlib.Omega.{arith}
use lib.ListN.{length-replicate}
use Rattle.limits.specs.Limits.{most_places, most_links}
use Rattle.flows.specs.Network.{Network}
use Rattle.flows.proofs.Lists.{get_or_zeros}
use Rattle.statics.proofs.PrimalDual.{zero_state_lem}
use Rattle.states.specs.State.{Sound}
use Rattle.states.specs.Steps.{level, zero_state}

pub zero_sound : (N : Network) → Sound N zero_state
unfolding zero_state
zero_sound N =
    record {
      flows = length-replicate {A = ℕ} most_links 0;
      potentials = length-replicate {A = ℕ} most_places 0;
      primal_dual = zero_state_lem N most_links most_places;
      at_most = λ v. omega (arith, get_or_zeros most_places v);
      limit = omega (arith, get_or_zeros most_places N.destination);
    }

pub zero_level : (N : Network) → level N zero_state ≡ 0
unfolding zero_state
zero_level N = get_or_zeros most_places N.destination
