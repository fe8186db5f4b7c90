-- The index of a network is that of every struct whose links have the same ends. Assumes nothing.
use mathlib.Core.Path.{◌≡◌, ap, subst, ◌∙◌}
use mathlib.Core.List.{List, map}
use Prim.Native.Nat.{ℕ}
use Rattle.network.specs.declared.Network.{Network}
use Rattle.network.specs.Held.{link_at, links_below, model_of}
use Rattle.network.proofs.Links.{part_same}
use Rattle.buckets.specs.Buckets.{Bucketed}
use Rattle.residual.specs.declared.Index.{Index}
use Rattle.residual.specs.Index.{ends, Indexed}

-- an index is that of every network with the same starts and ends, whatever the capacities and transits
pub same_index : (net other : Network) (index : Index) → net.count ≡ other.count
    → ((e : ℕ) → (link_at net e).start ≡ (link_at other e).start) → ((e : ℕ) → (link_at net e).end ≡ (link_at other e).end)
    → Indexed (model_of net) index → Indexed (model_of other) index
unfolding model_of
same_index net other index n s e i =
    let starts : ends (λ l. l.start) (model_of net) ≡ ends (λ l. l.start) (model_of other) =
    part_same net other (λ l. l.start) s net.count ∙ ap (λ (m : ℕ). map (λ l. l.start) (links_below other m)) n in
    let finishes : ends (λ l. l.end) (model_of net) ≡ ends (λ l. l.end) (model_of other) =
    part_same net other (λ l. l.end) e net.count ∙ ap (λ (m : ℕ). map (λ l. l.end) (links_below other m)) n in
    record {
      out_places = i.out_places;
      in_places = i.in_places;
      out = subst (λ (xs : List ℕ). Bucketed xs index.out.first index.out.next) starts i.out;
      into = subst (λ (xs : List ℕ). Bucketed xs index.into.first index.into.next) finishes i.into;
    }
