-- The network whose capacities are the blocks on the links has the same shape as the network, and the same transits. Assumes nothing.
use mathlib.Core.Path.{◌≡◌, refl, sym, ap, ap₂, subst⁻¹, ◌∙◌}
use mathlib.Core.List.{List, [], ◌∷◌, map}
use Prim.Native.Nat.{ℕ, ◌<◌}
use native.Mathlib.Omega.{arith}
use native.Mathlib.Decide.{dec_lt}
use lib.ListN.{get_or, drop, get_or-eq_default}
use Rattle.flows.specs.declared.Link.{Link}
use Rattle.flows.specs.Network.{Network, link, no_link, count}
use Rattle.network_columns.specs.Columns.{of_capacity, each, with_capacities}
use Rattle.network_columns.proofs.Columns.{capacities_alike, link_capacities}
use Rattle.buckets.specs.Buckets.{Bucketed}
use Rattle.statics.specs.Static.{on_link}
use Rattle.residual.specs.declared.Index.{Index}
use Rattle.residual.specs.Index.{Indexed}
use Rattle.routes.proofs.Shape.{SameShape}
use Rattle.hinted_route.specs.Remaining.{Remains}

-- a network of the same shape, whose capacities are the blocks on the links
pub record Left (N M : Network) (x : List ℕ) : Type 0 where
  pub same : SameShape N M
  pub capacity : (e : ℕ) → e < count N → (link M e).capacity ≡ on_link x e

module _ (N : Network) (x : List ℕ) where
  past : (M : Network) (e : ℕ) → (e < count M → ⊥) → link M e ≡ no_link
  unfolding link
  past M e p = get_or-eq_default M.links no_link {n = e} (omega arith)

  -- what does not depend on capacities stays
  part : (f : Link → ℕ) → ((l : Link) (n : ℕ) → f (of_capacity l n) ≡ f l) → (e : ℕ) → f (link (with_capacities N x) e) ≡ f (link N e)
  part f h e =
      let links : count (with_capacities N x) ≡ count N = (capacities_alike N x).links in
      elim (dec_lt e (count N)) [
        | yes p ↦ ap f (link_capacities N x e p) ∙ h (link N e) (get_or x e 0)
        | no p ↦ ap f (past (with_capacities N x) e (λ q. p (omega arith))) ∙ sym (ap f (past N e p))
      ]

  pub left_with : Left N (with_capacities N x) x
  left_with =
      let alike = capacities_alike N x in
      record {
        same = record {
          places = alike.places;
          origin = alike.origin;
          destination = alike.destination;
          links = alike.links;
          start = part (λ l. l.start) (λ l n. refl);
          end = part (λ l. l.end) (λ l n. refl);
        };
        capacity = λ e p. ap (λ (l : Link). l.capacity) (link_capacities N x e p);
      }

  pub remains_with : Remains N x (with_capacities N x)
  remains_with =
      let left = left_with in
      record {
        origin = left.same.origin;
        destination = left.same.destination;
        links = left.same.links;
        start = λ e p. left.same.start e;
        end = λ e p. left.same.end e;
        capacity = left.capacity;
      }

-- the index of the network is that of the network with other capacities
same_ends : (f : Link → ℕ) → ((l : Link) (n : ℕ) → f (of_capacity l n) ≡ f l) → (ls : List Link) (ns : List ℕ) → map f (each of_capacity ls ns) ≡ map f ls
unfolding each
same_ends f h [] ns = refl
same_ends f h (l ∷ ls) ns = ap₂ (λ (n : ℕ) (r : List ℕ). n ∷ r) (h l (get_or ns 0 0)) (same_ends f h ls (drop 1 ns))

pub indexed_with : (N : Network) (x : List ℕ) (index : Index) → Indexed N index → Indexed (with_capacities N x) index
unfolding with_capacities
indexed_with N x index i =
    record {
      out_places = i.out_places;
      in_places = i.in_places;
      out = subst⁻¹ (λ (xs : List ℕ). Bucketed xs index.out.first index.out.next) (same_ends (λ l. l.start) (λ l n. refl) N.links x) i.out;
      into = subst⁻¹ (λ (xs : List ℕ). Bucketed xs index.into.first index.into.next) (same_ends (λ l. l.end) (λ l n. refl) N.links x) i.into;
    }
