-- Arcs of a network that a struct holds: their ends and rooms are the struct's numbers, since its links are. Assumes nothing.
use mathlib.Core.Path.{◌≡◌, ◌∙◌}
use mathlib.Core.Logic.{◌≢◌}
use mathlib.Core.Bool.{cond}
use mathlib.Core.List.{List}
use Prim.Native.Nat.{ℕ, ◌-◌, ◌≤◌, ◌<◌}
use native.Mathlib.Omega.{arith}
use Rattle.limits.specs.Limits.{most_places, most_links}
use Rattle.flows.specs.Network.{count, WellFormed}
use Rattle.statics.specs.Static.{on_link}
use Rattle.network.specs.declared.Network.{Network}
use Rattle.network.specs.Held.{link_at, model_of}
use Rattle.network.proofs.Model.{known_link, origin_model}
use Rattle.network.proofs.Links.{places_few, destination_in}
use Rattle.residual.specs.declared.Tree.{Tree}
use Rattle.residual.specs.Residual.{link_of, along, tail, room}
use Rattle.residual.specs.Tree.{rank, arc}
use Rattle.states.specs.declared.State.{State}
use Rattle.states.specs.State.{TightArc}
use Rattle.states.specs.Steps.{Augmentable}

pub destination_place : (net : Network) → WellFormed (model_of net) → net.destination < most_places
destination_place net w = omega (arith, destination_in net w, places_few net w)

module _ (net : Network) (a : ℕ) (h : link_of a < count (model_of net)) where
  pub tail_held : tail (model_of net) a ≡ cond (along a) (link_at net (link_of a)).start (link_at net (link_of a)).end
  unfolding tail
  tail_held = rw (known_link net (link_of a) h)

  pub room_held : (x : List ℕ) → room (model_of net) x a ≡ cond (along a) ((link_at net (link_of a)).capacity - on_link x (link_of a)) (on_link x (link_of a))
  unfolding room
  room_held x = rw (known_link net (link_of a) h)

-- what the code needs to know where the way back stands at the place v
pub record Standing (net : Network) (s : State) (t : Tree) (v : ℕ) : Type 0 where
  pub place : v < most_places
  pub index : link_of (arc t v) < most_links
  pub over : TightArc (model_of net) s t v
  pub carries : on_link s.flow (link_of (arc t v)) ≤ (link_at net (link_of (arc t v))).capacity
  pub from : tail (model_of net) (arc t v)
      ≡ cond (along (arc t v)) (link_at net (link_of (arc t v))).start (link_at net (link_of (arc t v))).end
  pub has : room (model_of net) s.flow (arc t v)
      ≡ cond (along (arc t v)) ((link_at net (link_of (arc t v))).capacity - on_link s.flow (link_of (arc t v))) (on_link s.flow (link_of (arc t v)))

pub standing : (net : Network) (s : State) (t : Tree) (v : ℕ) → Augmentable (model_of net) s t → 0 < rank t v → v ≢ net.origin
    → Standing net s t v
standing net s t v g i h =
    let a = g.tree.reached v i (λ e. h (e ∙ origin_model net)) in
    record {
      place = omega (arith, g.tree.rank_places v i, g.well_formed.places_most);
      index = omega (arith, a.known, g.well_formed.links_most);
      over = a;
      carries = rw (known_link net (link_of (arc t v)) a.known) at (g.sound.primal_dual.flow.within (link_of (arc t v)) a.known);
      from = tail_held net (arc t v) a.known;
      has = room_held net (arc t v) a.known s.flow;
    }
