-- The places that the links' arcs in a direction leave, in link order: one link more, and that they are keys of buckets. Assumes nothing.
use mathlib.Core.Path.{◌≡◌, refl, sym, ap, ap₂, subst, ◌∙◌}
use mathlib.Core.List.{List, [], ◌∷◌, ◌++◌, map, map-append}
use Prim.Native.Nat.{ℕ, ◌+◌, ◌≤◌, ◌<◌}
use native.Mathlib.Numerals.{add-one}
use native.Mathlib.Omega.{arith}
use lib.ListN.{length, get_or, take, set, length-map, get_or-map}
use lib.Seq.{take-suc, take-suc-set}
use Rattle.limits.specs.Limits.{most_places, most_links}
use Rattle.flows.specs.declared.Link.{Link}
use Rattle.flows.specs.Network.{no_link}
use Rattle.residual.specs.declared.Direction.{Direction}
use Rattle.residual.specs.declared.Direction.TheVariants.{Along, Against}
use Rattle.residual.specs.Relax.{tail_of}
use Rattle.adjacency.specs.Chains.{Chainable}

pub part_more : (f : Link → ℕ) (links : List Link) (xs : List ℕ) (e x : ℕ) → e < length links → e < length xs → x ≡ f (get_or links e no_link)
    → take e xs ≡ map f (take e links) → take (e + 1) (set xs e x) ≡ map f (take (e + 1) links)
part_more f links xs e x h k p t =
    rw add-one
    (take-suc-set xs e x k
    ∙ ap₂ (λ (s : List ℕ) (n : ℕ). s ++ (n ∷ [])) t p
    ∙ sym (map-append f (take e links) (get_or links e no_link ∷ []))
    ∙ ap (map f) (sym (take-suc links e no_link h)))

tail_none : (d : Direction) → tail_of d no_link ≡ 0
tail_none Along = refl
tail_none Against = refl

module _ (d : Direction) (links : List Link) (keys : List ℕ) (e : keys ≡ map (tail_of d) links) (c : Chainable d links) where
  pub keys_few : length keys ≤ most_links
  keys_few = rw (e, length-map links (tail_of d)) c.few

  pub key_in : (k : ℕ) → k < length keys → get_or keys k 0 < most_places
  key_in k h =
      let t : get_or (map (tail_of d) links) k 0 ≡ tail_of d (get_or links k no_link) =
      subst (λ (n : ℕ). get_or (map (tail_of d) links) k n ≡ tail_of d (get_or links k no_link)) (tail_none d) (get_or-map (tail_of d) links k no_link) in
      rw (e, t) (c.in_place k (omega (arith, ap length e, length-map links (tail_of d))))
