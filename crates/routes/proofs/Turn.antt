-- A turn of the walk from the destination back to the origin, over the structs' arrays: the link by which the place was reached is one, its
-- number is stored before the others, and the place's rank falls. Assumes nothing.
use mathlib.Core.Path.{◌≡◌, ◌∙◌}
use mathlib.Core.Logic.{◌≢◌}
use mathlib.Core.List.{List}
use Prim.Native.Nat.{ℕ, ◌-◌, ◌/◌, ◌<◌}
use native.Mathlib.Omega.{arith}
use lib.ListN.{set, get_or}
use Rattle.network.specs.Held.{link_at, model_of}
use Rattle.network.proofs.Model.{count_model, origin_model}
use Rattle.network.proofs.Links.{is_link, start_is}
use Rattle.flows.specs.Network.{link}
use Rattle.network.specs.declared.Network.{Network}
use Rattle.residual.specs.declared.Tree.{Tree}
use Rattle.residual.specs.Tree.{rank, arc}
use Rattle.residual.specs.Residual.{link_of}
use Rattle.routes.specs.Route.{Traceable}
use Rattle.routes.proofs.Trails.{Traced, traced_more, first_left, link_known, rank_falls}

-- a turn, over the structs' arrays
module _ (net : Network) {t : Tree} (traceable : Traceable (model_of net) t) {links : List ℕ} {first place : ℕ}
    (w : Traced (model_of net) t links first place) (away : place ≢ net.origin) where
  away-model : place ≢ (model_of net).origin
  away-model h = away (h ∙ origin_model net)

  known : get_or t.arc place 0 / 2 < net.count
  known = omega (arith, link_known (model_of net) t traceable links first place w away-model, count_model net)

  pub room : 0 < first
  room = first_left (model_of net) t traceable links first place w away-model

  pub few : get_or t.arc place 0 / 2 < 256
  few = omega (arith, known, count_model net, traceable.sized.links_most)

  starts : (link (model_of net) (link_of (arc t place))).start ≡ (link_at net (get_or t.arc place 0 / 2)).start
  starts = start_is net (get_or t.arc place 0 / 2) known

  pub start-few : (link_at net (get_or t.arc place 0 / 2)).start < 64
  start-few =
      omega (
        arith,
        starts,
        traceable.sized.connects.start_in (link_of (arc t place)) (is_link net (get_or t.arc place 0 / 2) known),
        traceable.sized.places_most,
      )

  pub next : Traced (model_of net) t (set links (first - 1) (get_or t.arc place 0 / 2)) (first - 1) ((link_at net (get_or t.arc place 0 / 2)).start)
  next = rw starts at (traced_more (model_of net) t traceable links first place w away-model)

  pub falls : rank t ((link_at net (get_or t.arc place 0 / 2)).start) < rank t place
  falls = rw starts at (rank_falls (model_of net) t traceable links first place w away-model)
