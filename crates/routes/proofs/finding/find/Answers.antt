-- `routes::find` meets its contract: what the search finds is traced, and what it does not find is closed. Both hold as well of the
-- network with its transits. Assumes nothing.
use mathlib.Core.Path.{◌≡◌, sym, ap, subst, ◌∙◌}
use Prim.Native.Nat.{◌-◌}
use native.Mathlib.Omega.{arith}
use lib.ListN.{length, drop, replicate, length-drop}
use Rattle.flows.specs.Network.{Network}
use Rattle.residual.proofs.Sized.{sized}
use Rattle.statics.proofs.Balance.{on_link_zeros}
use Rattle.statics.specs.Reach.{IsRoute}
use Rattle.routes.specs.Route.{IsTrail, links_of}
use Rattle.routes.specs.declared.Route.{Route}
use Rattle.routes.specs.declared.finding.Trail.{Trail}
use Rattle.routes.proofs.Idle.{idle_searchable, traceable, separates}
use Rattle.routes.proofs.Still.{found_still}
use Rattle.std.specs.Prelude.{Some, None}
use Rattle.routes.proofs.finding.find.Goals as goal

pub search-tree-requires : goal.search-tree-requires
search-tree-requires c = (idle_searchable _ (sized c.stilled-still.result.formed), c.stilled-still.result.indexed)

pub trace-requires : goal.trace-requires
trace-requires c =
    traceable _ (replicate 256 0) (replicate 64 0) _ (on_link_zeros 256) c.search-tree.ensures (sized c.stilled-still.result.formed) c.if-tree.true

-- the route that the trail holds, from the array's first place on
aligned_route : {N : Network} (trail : Trail) (route : Route) → IsTrail N trail → route.count ≡ 63 - trail.first
    → links_of route ≡ drop trail.first trail.links → IsRoute N (links_of route) × (route.count ≡ length (links_of route))
aligned_route {N} trail route t count e = (
  subst (IsRoute N) (sym e) t.route,
  count ∙ omega (arith, ap length e, length-drop trail.first trail.links, t.size, t.first),
)

pub returns-then-tree : goal.returns-then-tree
returns-then-tree c =
    let r = aligned_route _ c.aligned.result c.trace.ensures c.aligned.ensures.1 c.aligned.ensures.2 in
    found_still c.args.graph.now.network c.stilled-still.result.network c.stilled-still.ensures (Some c.aligned.result) (c.aligned.ensures.0, r.0, r.1)

pub returns-else-tree : goal.returns-else-tree
returns-else-tree c =
    found_still c.args.graph.now.network c.stilled-still.result.network c.stilled-still.ensures None
    (_, separates _ (replicate 256 0) (replicate 64 0) _ (on_link_zeros 256) c.search-tree.ensures c.if-tree.false)
