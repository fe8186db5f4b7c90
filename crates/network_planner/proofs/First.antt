-- The first search, under no flow and no potentials: it finds a route to the destination, or a set of places that no link with capacity
-- leaves. Assumes nothing.
use mathlib.Core.Path.{◌≡◌}
use mathlib.Core.Bool.{true, false}
use mathlib.Core.List.{List}
use Prim.Native.Nat.{ℕ, ◌≤◌}
use Rattle.limits.specs.Limits.{least_amount, most_amount}
use Rattle.flows.specs.Network.{Network, WellFormed}
use Rattle.statics.specs.Reach.{Reachable, IsRoute}
use Rattle.statics.proofs.Balance.{on_link_zeros}
use Rattle.statics.proofs.Closed.{separated_unreachable}
use Rattle.residual.specs.declared.Tree.{Tree}
use Rattle.residual.specs.Tree.{Searchable, Searched}
use Rattle.residual.proofs.Sized.{sized}
use Rattle.routes.proofs.Idle.{idle_searchable, traceable, separates}
use Rattle.routes.proofs.Trails.{tree_route}
use Rattle.states.specs.declared.State.{State}
use Rattle.states.specs.Steps.{zero_state}
use Rattle.quickest.specs.Quickest.{FirstSearched, Plannable}

module _ {N : Network} (wf : WellFormed N) where
  module _ {start : State} (is : start ≡ zero_state) where
    pub first_searchable : Searchable N start.flow start.potential
    unfolding zero_state
    first_searchable = rw is (idle_searchable N (sized wf))

    pub first_searched : {t : Tree} → Searched N start.flow start.potential t → FirstSearched N t
    first_searched searched = rw is at searched

  module _ {t : Tree} (searched : FirstSearched N t) where
    module _ (found : t.found ≡ true) where
      route : (es : List ℕ) × IsRoute N es
      unfolding zero_state
      route = tree_route N t (traceable N zero_state.flow zero_state.potential t (on_link_zeros 256) searched (sized wf) found)

      pub plannable : {amount : ℕ} → least_amount ≤ amount → amount ≤ most_amount → Plannable N amount
      plannable low high = record { well_formed = wf; least = low; most = high; links = route.0; route = route.1 }

      pub reachable : Reachable N
      reachable = record { chain = route.0; leads = route.1.chain; opens = route.1.opens }

    pub lost_unreachable : t.found ≡ false → Reachable N → ⊥
    unfolding zero_state
    lost_unreachable lost =
        separated_unreachable (separates N zero_state.flow zero_state.potential t (on_link_zeros 256) searched lost)
