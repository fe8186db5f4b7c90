-- A path read off a search tree from the destination back: ranks fall on the way, so it ends at the origin, visits no place twice and
-- has room in the array. Assumes nothing.
use mathlib.Core.Path.{◌≡◌, refl, ◌∙◌}
use mathlib.Core.Logic.{◌≢◌}
use mathlib.Core.List.{List, [], ◌∷◌}
use Prim.Native.Nat.{ℕ, zero, suc, ◌+◌, ◌-◌, ◌≤◌, ◌<◌}
use native.Mathlib.Omega.{arith}
use native.Mathlib.Decide.{ℕ_discrete}
use lib.ListN.{length, drop, set, length-set, length-drop, drop_of_length-le}
use lib.Seq.{drop-cons, drop-set-lt, get_or-set_same}
use Rattle.limits.specs.Limits.{most_row_links, most_places}
use Rattle.flows.specs.Network.{Network, link, count}
use Rattle.flows.specs.Rows.{Leads, IsChain}
use Rattle.statics.specs.Reach.{Open, IsRoute}
use Rattle.statics.proofs.Chains.{Climbs, climbs_simple}
use Rattle.residual.specs.declared.Tree.{Tree}
use Rattle.residual.specs.Residual.{link_of}
use Rattle.residual.specs.Tree.{rank, arc}
use Rattle.routes.specs.Route.{Traceable, Parent}

-- the part of the path from `place` to the destination
pub record Path (N : Network) (t : Tree) (es : List ℕ) (place : ℕ) : Type 0 where
  pub leads : Leads N place N.destination es
  pub opens : Open N es
  pub climbs : Climbs N (rank t) es
  pub settled : 0 < rank t place
  pub short : rank t place + length es ≤ most_places

-- it stands in the array from `first` on
pub record Traced (N : Network) (t : Tree) (links : List ℕ) (first place : ℕ) : Type 0 where
  pub size : length links ≡ most_row_links
  pub fits : first ≤ most_row_links
  pub path : Path N t (drop first links) place

module _ (N : Network) (t : Tree) (traceable : Traceable N t) where
  path_none : Path N t [] N.destination
  path_none =
      record {
        leads = refl;
        opens = tt;
        climbs = tt;
        settled = traceable.destination;
        short = omega (arith, traceable.rank_most N.destination);
      }

  module _ (es : List ℕ) (place : ℕ) (path : Path N t es place) where
    -- the link by which the place was reached
    parent : place ≢ N.origin → Parent N t place
    parent away = traceable.parents place path.settled away

    path_more : place ≢ N.origin → Path N t (link_of (arc t place) ∷ es) (link N (link_of (arc t place))).start
    path_more away =
        let p = parent away in
        record {
          leads = (p.known, refl, rw p.ends path.leads);
          opens = (p.opens, path.opens);
          climbs = (rw p.ends p.before, path.climbs);
          settled = p.settled;
          short = omega (arith, path.short, p.before);
        }

    path_route : place ≡ N.origin → IsRoute N es
    path_route home =
        let chain : IsChain N es = rw home at path.leads in
        record {
          chain = chain;
          opens = path.opens;
          simple = climbs_simple N (rank t) es chain path.climbs;
          short = omega (arith, path.settled, path.short);
        }

  -- the whole path, from a part of it: the rank is at most k
  whole : (k : ℕ) (es : List ℕ) (place : ℕ) → rank t place ≤ k → Path N t es place → (ls : List ℕ) × IsRoute N ls
  whole zero es place h path = absurd (omega (arith, path.settled))
  whole (suc k) es place h path =
      elim (ℕ_discrete place N.origin) [
        | yes home ↦ (es, path_route es place path home)
        | no away ↦ whole k (link_of (arc t place) ∷ es) (link N (link_of (arc t place))).start
            (omega (arith, (parent es place path away).before)) (path_more es place path away)
      ]

  pub tree_route : (es : List ℕ) × IsRoute N es
  tree_route = whole (rank t N.destination) [] N.destination (omega arith) path_none

  pub traced_none : (links : List ℕ) → length links ≡ most_row_links → Traced N t links most_row_links N.destination
  traced_none links size =
      let none : drop most_row_links links ≡ [] = drop_of_length-le links {i = most_row_links} (omega arith) in
      record { size = size; fits = omega arith; path = rw none path_none }

  module _ (links : List ℕ) (first place : ℕ) (w : Traced N t links first place) (away : place ≢ N.origin) where
    reached : Parent N t place
    reached = parent (drop first links) place w.path away

    pub first_left : 0 < first
    first_left = omega (arith, w.path.short, length-drop first links, w.size, w.fits, reached.settled, reached.before)

    pub link_known : link_of (arc t place) < count N
    link_known = reached.known

    front : drop (first - 1) (set links (first - 1) (link_of (arc t place))) ≡ link_of (arc t place) ∷ drop first links
    front =
        let e : ℕ = link_of (arc t place) in
        let l : first - 1 < length links = omega (arith, first_left, w.size, w.fits) in
        let n : suc (first - 1) ≡ first = omega (arith, first_left) in
        drop-cons (set links (first - 1) e) (first - 1) 0 (rw length-set l)
        ∙ rw (get_or-set_same links (first - 1) e 0 l, n, drop-set-lt first links (first - 1) e (omega (arith, first_left)))

    pub traced_more : Traced N t (set links (first - 1) (link_of (arc t place))) (first - 1) (link N (link_of (arc t place))).start
    traced_more =
        record {
          size = length-set links (first - 1) (link_of (arc t place)) ∙ w.size;
          fits = omega (arith, w.fits);
          path = rw front (path_more (drop first links) place w.path away);
        }

    pub rank_falls : rank t (link N (link_of (arc t place))).start < rank t place
    rank_falls = reached.before

  pub traced_route : (links : List ℕ) (first place : ℕ) → Traced N t links first place → place ≡ N.origin
      → IsRoute N (drop first links)
  traced_route links first place w home = path_route (drop first links) place w.path home
