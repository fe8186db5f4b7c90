-- The cost of a static flow, summed link by link: what a link holds is a product of two of the struct's numbers, and bounded.
-- Assumes nothing.
use mathlib.Core.Path.{◌≡◌, ap, ◌∙◌}
use mathlib.Core.List.{List}
use Prim.Native.Nat.{ℕ, ◌+◌, ◌*◌, ◌≤◌, ◌<◌}
use native.Mathlib.Nat.{mul-le-mul}
use native.Mathlib.Numerals.{add-one}
use native.Mathlib.Omega.{arith}
use lib.ListN.{length, get_or}
use Rattle.limits.specs.Limits.{most_capacity, most_transit, most_links}
use Rattle.flows.specs.Sums.{sum}
use Rattle.flows.specs.declared.Link.{Link}
use Rattle.flows.specs.Network.{no_link, link, count}
use Rattle.statics.specs.Static.{on_link, cost}
use Rattle.network.specs.declared.Network.{Network}
use Rattle.network.specs.Held.{link_at, links_below, model_of}
use Rattle.network.proofs.Model.{count_model, lent_count, lent_link}
use Rattle.network.proofs.Links.{links_few, is_link, transit_is, transit_most}
use Rattle.costs.specs.Weighable.{Weighable}

-- the most that a link can hold
abbrev most_held : ℕ
most_held = most_transit * most_capacity

-- the first e links are weighed
pub record Weighing (net : Network) (x : List ℕ) (total e : ℕ) : Type 0 where
  pub below : e ≤ net.count
  pub adds : total ≡ sum (λ i. (link (model_of net) i).transit * on_link x i) e
  pub most : total ≤ most_held * e

module _ (net : Network) (x : List ℕ) (w : Weighable (model_of net) x) where
  -- one link's numbers
  held_most : (e : ℕ) → e < net.count → (link_at net e).transit * get_or x e 0 ≤ most_held
  held_most e h =
      let i : e < count (model_of net) = is_link net e h in
      let b : get_or x e 0 ≤ most_capacity = omega (arith, w.within e i, w.well_formed.capacity_most e i) in
      mul-le-mul (transit_most net e h w.well_formed) b

  pub few : net.count ≤ most_links
  few = links_few net w.well_formed

  -- the links as they are lent
  module _ (ls : List Link) (lent : ls ≡ links_below net net.count) where
    known : (e : ℕ) → e < length ls → e < net.count
    known e h = omega (arith, lent_count net ls lent)

    pub in_array : (e : ℕ) → e < length ls → e < most_links
    in_array e h = omega (arith, known e h, few)

    pub weigh_step : (total e : ℕ) → Weighing net x total e → e < length ls
        → Weighing net x (total + (get_or ls e no_link).transit * get_or x e 0) (e + 1)
    weigh_step total e g h =
        rw (lent_link net ls lent e (known e h))
        (record {
          below = omega (arith, known e h);
          adds = rw (add-one, transit_is net e (known e h)) (ap (λ (n : ℕ). n + (link_at net e).transit * get_or x e 0) g.adds);
          most = omega (arith, held_most e (known e h));
        })

    pub weigh_end : (total e : ℕ) → Weighing net x total e → length ls ≤ e → total ≡ cost (model_of net) x
    unfolding cost
    weigh_end total e g h =
        g.adds ∙ ap (sum (λ i. (link (model_of net) i).transit * on_link x i)) (omega (arith, g.below, lent_count net ls lent, count_model net))
