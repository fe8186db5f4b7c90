-- The links of a well-formed network can be put into chains by place, and the chains are its index. Assumes nothing.
use mathlib.Core.Path.{◌≡◌, ap, subst, ◌∙◌}
use mathlib.Core.List.{List, map}
use Prim.Native.Nat.{ℕ, ◌<◌}
use native.Mathlib.Omega.{arith}
use lib.ListN.{length, get_or}
use Rattle.flows.specs.declared.Link.{Link}
use Rattle.flows.specs.Network.{no_link, WellFormed}
use Rattle.network.specs.declared.Network.{Network}
use Rattle.network.specs.Held.{link_at, links_below, model_of}
use Rattle.network.proofs.Model.{length_links, get_or_links}
use Rattle.network.proofs.Links.{places_few, links_few, start_in, end_in}
use Rattle.buckets.specs.Buckets.{Bucketed}
use Rattle.residual.specs.declared.Chains.{Chains}
use Rattle.residual.specs.declared.Direction.{Direction}
use Rattle.residual.specs.declared.Direction.TheVariants.{Along, Against}
use Rattle.residual.specs.Index.{Indexed}
use Rattle.residual.specs.Relax.{tail_of}
use Rattle.adjacency.specs.Chains.{Chainable, ByTail}

module _ (net : Network) (w : WellFormed (model_of net)) where
  tail_in : (d : Direction) (e : ℕ) → e < net.count → tail_of d (link_at net e) < net.places
  tail_in Along e h = start_in net e h w
  tail_in Against e h = end_in net e h w

  pub chainable : (d : Direction) (links : List Link) → links ≡ links_below net net.count → Chainable d links
  chainable d links s =
      let n : length links ≡ net.count = ap length s ∙ length_links net net.count in
      record {
        few = omega (arith, links_few net w);
        in_place =
            λ e h.
            let l : get_or links e no_link ≡ link_at net e = ap (λ (ls : List Link). get_or ls e no_link) s ∙ get_or_links net net.count e (omega arith) in
            rw l (omega (arith, tail_in d e (omega arith), places_few net w));
      }

  pub indexed : (links : List Link) → links ≡ links_below net net.count → (A B : Chains) → ByTail Along links A → ByTail Against links B
      → Indexed (model_of net) (record { out = A; into = B })
  unfolding model_of
  indexed links s A B a b = record {
    out_places = a.places;
    in_places = b.places;
    out = subst (λ (ls : List Link). Bucketed (map (λ l. l.start) ls) A.first A.next) s a.bucketed;
    into = subst (λ (ls : List Link). Bucketed (map (λ l. l.end) ls) B.first B.next) s b.bucketed;
  }
