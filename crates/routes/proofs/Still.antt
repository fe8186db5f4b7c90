-- Transits do not matter to routes: a network with every transit 0 has the same shape and capacities, so what is found there is found
-- here. Assumes nothing.
use mathlib.Core.Path.{◌≡◌, refl, sym, ap, subst, subst⁻¹, ◌∙◌}
use mathlib.Core.List.{List}
use Prim.Native.Nat.{ℕ, ◌≤◌, ◌<◌}
use native.Mathlib.Omega.{arith}
use lib.ListN.{get_or-map}
use Rattle.limits.specs.Limits.{most_transit}
use Rattle.flows.specs.declared.Link.{Link}
use Rattle.flows.specs.Network.{Network, no_link, link, count, WellFormed}
use Rattle.network.specs.declared.Network as held
use Rattle.network.specs.Held.{link_at, model_of}
use Rattle.network.proofs.Model.{known_link, same_part}
use Rattle.residual.specs.declared.Index.{Index}
use Rattle.residual.specs.Index.{Indexed}
use Rattle.residual.proofs.SameEnds.{same_index}
use Rattle.routes.specs.declared.Route.{Route}
use Rattle.std.specs.Prelude.{Option, Some, None}
use Rattle.statics.specs.Reach.{IsRoute}
use Rattle.routes.specs.Route.{FoundRoute, still_link, without_transits}
use Rattle.routes.proofs.Shape.{SameShape, same_ends, same_chain, same_simple, same_open, same_connects, same_separates}

module _ (net : held.Network) where
  abbrev N : Network
  N = model_of net

  abbrev M : Network
  M = model_of (without_transits net)

  still_at : (e : ℕ) → link_at (without_transits net) e ≡ still_link (link_at net e)
  still_at e = get_or-map still_link net.links e no_link

  same_starts : (e : ℕ) → (link_at (without_transits net) e).start ≡ (link_at net e).start
  same_starts e = ap (λ (l : Link). l.start) (still_at e)

  same_finishes : (e : ℕ) → (link_at (without_transits net) e).end ≡ (link_at net e).end
  same_finishes e = ap (λ (l : Link). l.end) (still_at e)

  same_still : SameShape N M
  same_still = same_ends net (without_transits net) refl refl refl refl same_starts same_finishes

  same_capacity : (e : ℕ) → (link M e).capacity ≡ (link N e).capacity
  same_capacity = same_part net (without_transits net) refl (λ l. l.capacity) (λ e. ap (λ (l : Link). l.capacity) (still_at e))

  still_transit : (e : ℕ) → e < count M → (link M e).transit ≤ most_transit
  still_transit e p =
      omega (arith, ap (λ (l : Link). l.transit) (known_link (without_transits net) e p), ap (λ (l : Link). l.transit) (still_at e))

  still_formed : WellFormed N → WellFormed M
  still_formed w =
      record {
        connects = same_connects same_still w.connects;
        places_least = rw same_still.places w.places_least;
        places_most = rw same_still.places w.places_most;
        links_least = rw same_still.links w.links_least;
        links_most = rw same_still.links w.links_most;
        no_loop = λ e p h. w.no_loop e (rw same_still.links at p) (sym (same_still.start e) ∙ h ∙ same_still.end e);
        capacity_most = λ e p. rw (same_capacity e) (w.capacity_most e (rw same_still.links at p));
        transit_most = still_transit;
      }

  still_route : (es : List ℕ) → IsRoute M es → IsRoute N es
  still_route es r =
      record {
        chain = same_chain same_still es r.chain;
        opens = same_open same_still same_capacity es r.opens;
        simple = same_simple same_still es r.simple;
        short = r.short;
      }

  still_found : (r : Option Route) → FoundRoute M r → FoundRoute N r
  still_found (Some r) f = (f.0, still_route _ f.1, f.2)
  still_found None f =
      (f.0, same_separates same_still (λ e. (link N e).capacity) (λ e. (link M e).capacity) f.0 (λ e p. same_capacity e) f.1)

  -- in the terms of the code, where the network without transits has a name
  module _ (still : held.Network) (is : still ≡ without_transits net) where
    pub formed_still : WellFormed N → WellFormed (model_of still)
    formed_still w = subst⁻¹ (λ (n : held.Network). WellFormed (model_of n)) is (still_formed w)

    pub indexed_still : (index : Index) → Indexed N index → Indexed (model_of still) index
    indexed_still index i =
        subst⁻¹ (λ (n : held.Network). Indexed (model_of n) index) is (same_index net (without_transits net) index refl
        (λ e. sym (same_starts e)) (λ e. sym (same_finishes e)) i)

    pub found_still : (r : Option Route) → FoundRoute (model_of still) r → FoundRoute N r
    found_still r f = still_found r (subst (λ (n : held.Network). FoundRoute (model_of n) r) is f)
