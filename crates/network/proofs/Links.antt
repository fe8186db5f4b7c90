-- The links of a struct. Each is a link of the network that the struct holds, and within the limits where that network is well formed; one
-- part of all of them is the same in structs that agree on it, by recursion over the links. Assumes nothing.
use mathlib.Core.Path.{◌≡◌, refl, sym, ap, ap₂, ◌∙◌}
use mathlib.Core.List.{List, [], ◌∷◌, ◌++◌, map, map-append}
use Prim.Native.Nat.{ℕ, zero, suc, ◌≤◌, ◌<◌}
use native.Mathlib.Omega.{arith}
use Rattle.limits.specs.Limits.{most_places, most_links, most_capacity, most_transit}
use Rattle.flows.specs.declared.Link.{Link}
use Rattle.flows.specs.Network.{link, count, WellFormed}
use Rattle.network.specs.declared.Network.{Network}
use Rattle.network.specs.Held.{link_at, links_below, model_of}
use Rattle.network.proofs.Model.{count_model, link_model, places_model, origin_model, destination_model}

-- ---- the numbers beside the columns

module _ (net : Network) (formed : WellFormed (model_of net)) where
  pub places_few : net.places ≤ most_places
  places_few = omega (arith, formed.places_most, places_model net)

  pub links_some : 1 ≤ net.count
  links_some = omega (arith, formed.links_least, count_model net)

  pub links_few : net.count ≤ most_links
  links_few = omega (arith, formed.links_most, count_model net)

  pub origin_in : net.origin < net.places
  origin_in = omega (arith, formed.connects.origin_in, origin_model net, places_model net)

  pub destination_in : net.destination < net.places
  destination_in = omega (arith, formed.connects.destination_in, destination_model net, places_model net)

-- ---- one link

module _ (net : Network) (e : ℕ) (below : e < net.count) where
  pub is_link : e < count (model_of net)
  is_link = omega (arith, count_model net)

  pub start_is : (link (model_of net) e).start ≡ (link_at net e).start
  start_is = ap (λ (l : Link). l.start) (link_model net e below)

  pub end_is : (link (model_of net) e).end ≡ (link_at net e).end
  end_is = ap (λ (l : Link). l.end) (link_model net e below)

  pub capacity_is : (link (model_of net) e).capacity ≡ (link_at net e).capacity
  capacity_is = ap (λ (l : Link). l.capacity) (link_model net e below)

  pub transit_is : (link (model_of net) e).transit ≡ (link_at net e).transit
  transit_is = ap (λ (l : Link). l.transit) (link_model net e below)

  module _ (formed : WellFormed (model_of net)) where
    pub start_in : (link_at net e).start < net.places
    start_in = omega (arith, formed.connects.start_in e is_link, start_is, places_model net)

    pub end_in : (link_at net e).end < net.places
    end_in = omega (arith, formed.connects.end_in e is_link, end_is, places_model net)

    pub capacity_most : (link_at net e).capacity ≤ most_capacity
    capacity_most = omega (arith, formed.capacity_most e is_link, capacity_is)

    pub transit_most : (link_at net e).transit ≤ most_transit
    transit_most = omega (arith, formed.transit_most e is_link, transit_is)

-- ---- one part of all links

-- two structs that agree on it
pub part_same : (net other : Network) (f : Link → ℕ) → ((e : ℕ) → f (link_at net e) ≡ f (link_at other e)) → (n : ℕ)
    → map f (links_below net n) ≡ map f (links_below other n)
part_same net other f h zero = refl
part_same net other f h (suc n) =
    map-append f (links_below net n) (link_at net n ∷ [])
    ∙ ap₂ (λ (s : List ℕ) (k : ℕ). s ++ (k ∷ [])) (part_same net other f h n) (h n)
    ∙ sym (map-append f (links_below other n) (link_at other n ∷ []))
