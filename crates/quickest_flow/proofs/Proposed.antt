-- A state that is sound, and whose bound as the code adds it up is below the amount, is too short for it, whoever proposed it. Assumes
-- nothing.
use mathlib.Core.Path.{◌≡◌, ap}
use Prim.Native.Nat.{ℕ, ◌<◌}
use native.Mathlib.Omega.{arith}
use lib.ListN.{take}
use Rattle.flows.specs.Network.{WellFormed}
use Rattle.flows.specs.Cut.{bound}
use Rattle.statics.proofs.Potentials.{take_bound}
use Rattle.network.specs.declared.Network.{Network}
use Rattle.network.specs.Held.{model_of}
use Rattle.network.proofs.Model.{places_model}
use Rattle.states.specs.declared.State.{State}
use Rattle.states.specs.State.{Sound}
use Rattle.quickest.specs.Quickest.{TooShort}

pub sound_short : (net : Network) → WellFormed (model_of net) → {amount total : ℕ} {s : State} → Sound (model_of net) s
    → total ≡ bound (model_of net) (take net.places s.potential) → total < amount → TooShort (model_of net) amount s
sound_short net formed {s = s} sound is below =
    record {
      sound = sound;
      bounded = omega (
        arith,
        is,
        take_bound s.potential formed.connects,
        ap (λ (n : ℕ). bound (model_of net) (take n s.potential)) (places_model net),
      );
    }
