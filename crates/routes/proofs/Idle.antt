-- A search under no flow goes along links with capacity only: what it finds is a tree of such links, and what it does not find is
-- closed under them. Assumes nothing.
use mathlib.Core.Path.{◌≡◌, refl, sym, subst, ◌∙◌}
use mathlib.Core.Logic.{◌≢◌, ⊎_elim}
use mathlib.Core.Bool.{true, false}
use mathlib.Core.List.{List}
use Prim.Native.Nat.{ℕ, ◌*◌, ◌<◌}
use native.Mathlib.Omega.{arith}
use native.Mathlib.Nat.{le_trans}
use lib.ListN.{replicate, length-replicate}
use Rattle.flows.specs.Network.{Network, link}
use Rattle.statics.specs.Static.{on_link}
use Rattle.statics.specs.Closed.{Separates}
use Rattle.statics.proofs.Balance.{on_link_zeros}
use Rattle.statics.proofs.Raise.{zero_slackness}
use Rattle.residual.specs.declared.Tree.{Tree}
use Rattle.residual.specs.Residual.{link_of, tail, room}
use Rattle.residual.specs.Tree.{rank, arc, Searchable, Searched, Sized}
use Rattle.residual.proofs.Arcs.{Along, goes_along, tail_along, head_along, room_along, room_against, arc_cases}
use Rattle.routes.specs.Route.{Traceable, Parent}

-- under no flow and no potentials every reduced cost is a transit, so a search may be made
pub idle_searchable : (N : Network) → Sized N → Searchable N (replicate 256 0) (replicate 64 0)
idle_searchable N sized =
    record {
      sized = sized;
      flows = length-replicate {A = ℕ} 256 0;
      potentials = length-replicate {A = ℕ} 64 0;
      at_origin = on_link_zeros 64 N.origin;
      slackness = zero_slackness N (replicate 256 0) (replicate 64 0) (λ e p. on_link_zeros 256 e) (on_link_zeros 64);
    }

module _ (N : Network) (x π : List ℕ) (t : Tree) (idle : (e : ℕ) → on_link x e ≡ 0) (searched : Searched N x π t) where
  -- an arc with room goes along its link
  is_along : (a : ℕ) → 0 < room N x a → Along a (link_of a)
  is_along a h = ⊎_elim (λ d. d) (λ d. absurd (omega (arith, room_against N d x, idle (link_of a)))) (arc_cases a)

  pub parent : (v : ℕ) → 0 < rank t v → v ≢ N.origin → Parent N t v
  parent v p away =
      let r = searched.reached v p away in
      let a = arc t v in
      let d = is_along a r.has_room in
      let from : tail N a ≡ (link N (link_of a)).start = tail_along N d in
      record {
        known = r.known;
        ends = sym (head_along N d) ∙ r.ends;
        opens = omega (arith, room_along N d x, r.has_room);
        settled = subst (λ (u : ℕ). 0 < rank t u) from r.settled;
        before = subst (λ (u : ℕ). rank t u < rank t v) from r.before;
      }

  pub traceable : Sized N → t.found ≡ true → Traceable N t
  traceable sized found =
      record {
        sized = sized;
        arcs = searched.arcs;
        rank_most = λ v. le_trans (searched.rank_most v) sized.places_most;
        destination = searched.found found;
        parents = parent;
      }

  pub separates : t.found ≡ false → Separates N (λ e. (link N e).capacity) t.rank
  separates lost =
      record {
        holds = omega (arith, searched.root);
        misses = (searched.lost lost).0;
        closed = λ e p h from.
            let d = goes_along (2 * e) e refl in
            let r : 0 < room N x (2 * e) = omega (arith, room_along N d x, idle e) in
            let f : 0 < rank t (tail N (2 * e)) = subst (λ (u : ℕ). 0 < rank t u) (sym (tail_along N d)) from in
            subst (λ (u : ℕ). 0 < rank t u) (head_along N d)
            (searched.closed lost (2 * e) (omega (arith, d.over)) r f);
      }
