-- A search of the network whose capacities are the blocks that are left: it is well formed and indexed as the network is, and while the
-- flow has a value the search finds a route, since a set of places that no block leaves would leave it none. Assumes nothing.
use mathlib.Core.Path.{◌≡◌}
use mathlib.Core.List.{List}
use Prim.Native.Nat.{ℕ, ◌<◌}
use native.Mathlib.Nat.{le_trans}
use native.Mathlib.Omega.{arith}
use lib.ListN.{length, length-take}
use lib.Seq.{get_or-take}
use Rattle.flows.specs.Network.{Network, link, count, WellFormed}
use Rattle.flows.specs.Rows.{duration}
use Rattle.flows.proofs.Lists.{all_at}
use Rattle.network.specs.declared.Network as held
use Rattle.network.specs.Held.{model_of}
use Rattle.network.proofs.Model.{count_model}
use Rattle.durations.specs.Lasting.{lasting, Timed}
use Rattle.durations.proofs.Lasting.{lasting_is, timed, timed_taken}
use Rattle.statics.specs.Static.{on_link, StaticFlow}
use Rattle.statics.proofs.Chains.{all_used, leads_known, open_used}
use Rattle.statics.proofs.Closed.{separated_value}
use Rattle.routes.specs.declared.Route.{Route}
use Rattle.std.specs.Prelude.{Some, None}
use Rattle.statics.specs.Reach.{IsRoute}
use Rattle.routes.specs.Route.{links_of, FoundRoute}
use Rattle.hinted_route.specs.Remaining.{IsHinted}
use Rattle.routes.proofs.Shape.{same_chain, same_simple, same_separates}
use Rattle.network_columns.specs.Columns.{with_capacities}
use Rattle.network_columns.proofs.Columns.{capacities_formed}
use Rattle.decompose.specs.Found.{Carries}
use Rattle.decompose.proofs.Shape.{Left, left_with, remains_with}
use Rattle.decompose.proofs.Filling.{carries_known}

-- a route over a network of the same shape with the blocks for capacities
route_carries : {N M : Network} {x : List ℕ} → Left N M x → (es : List ℕ) → IsRoute M es → Carries N x es
route_carries {N} {M} left es is =
    let chain = same_chain left.same es is.chain in
    let known = leads_known N es N.origin N.destination chain in
    record {
      chain = chain;
      simple = same_simple left.same es is.simple;
      has = λ e p. rw (left.capacity e (all_used (λ l. l < count N) es known e p)) at (open_used M es is.opens e p);
      short = is.short;
    }

-- a hint that passed its test
pub found_hinted : (net : held.Network) (x : List ℕ) (r : Route) → IsHinted net x r → Carries (model_of net) x (links_of r)
found_hinted net x r h =
    route_carries (left_with (model_of net) x) (links_of r) (h.leads (with_capacities (model_of net) x) (remains_with (model_of net) x))

-- a search finds a route
pub found : (N : Network) (x : List ℕ) (r : Route) → FoundRoute (with_capacities N x) (Some r) → Carries N x (links_of r)
found N x r f = route_carries (left_with N x) (links_of r) f.1

module _ {N : Network} (wf : WellFormed N) {x : List ℕ} {v : ℕ} (flow : StaticFlow N x v) where
  pub with_well_formed : WellFormed (with_capacities N x)
  with_well_formed = capacities_formed N x wf (λ e p. le_trans (flow.within e p) (wf.capacity_most e p))

  pub found_some : 0 < v → FoundRoute (with_capacities N x) None → ⊥
  found_some pos s =
      let left = left_with N x in
      let z : v ≡ 0 = separated_value wf.connects flow (same_separates left.same (on_link x) (λ e. (link (with_capacities N x) e).capacity) s.0 left.capacity s.1) in
      omega arith

-- a route can be timed
module _ (net : held.Network) (wf : WellFormed (model_of net)) {x : List ℕ} (route : Route) (carries : Carries (model_of net) x (links_of route)) where
  pub found_timed : Timed net.links (links_of route) (length (links_of route))
  found_timed =
      timed_taken net.links route.links route.count
      (timed net wf route.links route.count route.short λ j p.
      let inside : j < length (links_of route) = rw length-take (omega (arith, route.size, route.short)) in
      let known_at_lem = all_at (λ e. e < count (model_of net)) (links_of route) (carries_known wf carries) 0 j inside in
      omega (arith, known_at_lem, get_or-take route.count route.links j 0 p, count_model net))

  pub found_lasts : lasting net.links (links_of route) ≡ duration (model_of net) (links_of route)
  found_lasts = lasting_is net (links_of route) (carries_known wf carries)
