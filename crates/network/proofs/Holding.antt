-- The struct of a network, link by link: its array's links are the network's, and zeros after them. Assumes nothing.
use mathlib.Core.Path.{◌≡◌, refl, ap, ◌∙◌}
use mathlib.Core.List.{◌++◌}
use Prim.Native.Nat.{ℕ, zero, suc, ◌+◌, ◌-◌}
use native.Mathlib.Omega.{arith}
use native.Mathlib.Decide.{dec_lt}
use lib.ListN.{length, get_or, replicate, length-append, get_or-append, get_or-eq_default}
use lib.Seq.{get_or-append-add}
use Rattle.std.proofs.Math.Seq.{take-append_seam}
use Rattle.limits.specs.Limits.{most_links}
use Rattle.flows.specs.Network.{no_link, link}
use Rattle.flows.specs.Network as model
use Rattle.network.specs.Held.{with_links, held, link_at, links_below, model_of}
use Rattle.network.proofs.Model.{links_taken}

get_or_no_links : (n i : ℕ) → get_or (replicate n no_link) i no_link ≡ no_link
get_or_no_links zero i = refl
get_or_no_links (suc n) zero = refl
get_or_no_links (suc n) (suc i) = get_or_no_links n i

-- link e of the struct is link e of the network, for every number e
pub link_held : (N : model.Network) (e : ℕ) → link_at (held N) e ≡ link N e
unfolding held with_links link
link_held N e = elim (dec_lt e (length N.links)) [
  | yes l ↦ get_or-append N.links (replicate (most_links - length N.links) no_link) no_link e l
  | no g ↦
      let n : e ≡ length N.links + (e - length N.links) = omega arith in
      let o : get_or N.links e no_link ≡ no_link = get_or-eq_default N.links no_link {n = e} (omega arith) in
      rw o (ap (λ (k : ℕ). get_or (N.links ++ replicate (most_links - length N.links) no_link) k no_link) n
      ∙ get_or-append-add N.links (replicate (most_links - length N.links) no_link) (e - length N.links) no_link
      ∙ get_or_no_links (most_links - length N.links) (e - length N.links))
]

-- the network that a network's struct holds is that network
pub model_held : (N : model.Network) → model_of (held N) ≡ N
unfolding model_of held with_links
model_held N =
    let zeros = replicate (most_links - length N.links) no_link in
    let e : links_below (held N) (length N.links) ≡ N.links =
    links_taken (held N) (length N.links) (omega (arith, length-append N.links zeros)) ∙ take-append_seam N.links zeros in
    λ j. record { places = N.places; origin = N.origin; destination = N.destination; links = e j }

-- the numbers of the struct beside its links
module _ (N : model.Network) where
  pub places_held : (held N).places ≡ N.places
  unfolding held with_links
  places_held = refl

  pub links_count_held : (held N).count ≡ length N.links
  unfolding held with_links
  links_count_held = refl
