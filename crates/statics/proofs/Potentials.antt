-- Potentials that are held in a list longer than the places are many: their first numbers, one for each place, are a cut, with the
-- same bound. Assumes nothing.
use mathlib.Core.Path.{◌≡◌, ◌∙◌}
use mathlib.Core.List.{List}
use Prim.Native.Nat.{ℕ, ◌≤◌}
use native.Mathlib.Omega.{arith}
use lib.ListN.{length, take, length-take}
use lib.Seq.{get_or-take}
use Rattle.flows.specs.Clock.{counting}
use Rattle.flows.specs.Network.{Network, link, count, Connects}
use Rattle.flows.specs.Cut.{number, IsCut, bound}
use Rattle.flows.proofs.Sums.{sum_eq}
use Rattle.flows.proofs.Cut.{counted_slack}
use Rattle.statics.specs.Potentials.{Potentials}

module _ {N : Network} (π : List ℕ) (connects : Connects N) where
  pub take_cut : (H : ℕ) → number π N.destination ≡ counting H → N.places ≤ length π → Potentials N π → IsCut N H (take N.places π)
  take_cut H level long s =
      record {
        size = length-take N.places π ∙ omega arith;
        at_origin = get_or-take N.places π N.origin 0 connects.origin_in ∙ s.at_origin;
        at_destination = get_or-take N.places π N.destination 0 connects.destination_in ∙ level;
        at_most = λ u r. rw (get_or-take N.places π u 0 r) (omega (arith, s.at_most u r));
      }

  pub take_bound : bound N (take N.places π) ≡ bound N π
  unfolding bound
  take_bound =
      sum_eq (count N) (λ e p.
      rw (
        counted_slack,
        counted_slack,
        get_or-take N.places π (link N e).start 0 (connects.start_in e p),
        get_or-take N.places π (link N e).end 0 (connects.end_in e p),
      ))
