-- From a state below a limit: a search may be made, and where the limit has room for the whole reach, the path is tight once potentials
-- are raised by it, and can be augmented. Assumes nothing.
use mathlib.Core.Path.{◌≡◌, refl}
use mathlib.Core.Bool.{Bool, true, false}
use Prim.Native.Nat.{ℕ, ◌+◌, ◌-◌, ◌≤◌}
use native.Mathlib.Omega.{arith}
use Rattle.limits.specs.Limits.{most_cut_number}
use Rattle.flows.specs.Network.{Network}
use Rattle.flows.specs.Cut.{number}
use Rattle.residual.specs.declared.Tree.{Tree}
use Rattle.residual.specs.Tree.{Searched, Searchable}
use Rattle.residual.proofs.Sized.{sized}
use Rattle.states.specs.declared.State.{State}
use Rattle.states.specs.Steps.{level, raised_by, Raisable, Augmentable, Steppable}
use Rattle.states.proofs.Raised.{raised_level, raised_sound, raised_tree}

module _ {N : Network} {s : State} {limit : ℕ} (p : Steppable N s limit) where
  potential_most : (v : ℕ) → number s.potential v ≤ most_cut_number
  potential_most v = omega (arith, p.sound.at_most v, p.sound.limit)

  pub searchable : Searchable N s.flow s.potential
  searchable =
      record {
        sized = sized p.well_formed;
        flows = p.sound.flows;
        potentials = p.sound.potentials;
        at_origin = p.sound.primal_dual.potentials.at_origin;
        slackness = p.sound.primal_dual.slackness;
      }

  module _ {t : Tree} (found : Searched N s.flow s.potential t) where
    pub raisable : (δ : ℕ) → δ ≤ most_cut_number → Raisable s t δ
    raisable δ h =
        record {
          potentials = p.sound.potentials;
          distances = found.distances;
          potential_most = potential_most;
          by_most = h;
        }

    -- the limit has room for the whole reach: then the destination was reached
    module _ (h : t.reach ≤ limit - level N s) where
      reaches : (b : Bool) → t.found ≡ b → t.found ≡ true
      reaches true e = e
      reaches false e = absurd (omega (arith, (found.lost e).1, p.limit_most))

      whole : t.reach ≤ t.reach
      whole = omega arith

      pub raised_to : level N (raised_by t.reach s t) ≡ level N s + t.reach
      raised_to = raised_level p.well_formed.connects p.sound found whole

      pub augmentable : Augmentable N (raised_by t.reach s t) t
      augmentable =
          record {
            well_formed = p.well_formed;
            sound = raised_sound p.well_formed.connects p.sound found whole (omega (arith, p.below, p.limit_most));
            tree = raised_tree p.well_formed.connects p.sound found (reaches t.found refl);
          }
