-- The tests of a state, put together: sums at the places, taken link by link by the struct's numbers, are what leaves and what arrives;
-- past the places all of it is 0. Assumes nothing.
use mathlib.Core.Path.{◌≡◌, sym, ap, ◌∙◌}
use mathlib.Core.List.{List}
use Prim.Native.Nat.{ℕ, ◌+◌, ◌*◌, ◌≤◌, ◌<◌}
use native.Mathlib.Nat.{add-zero}
use native.Mathlib.Numerals.{add-one}
use native.Mathlib.Omega.{arith}
use native.Mathlib.Decide.{ℕ_discrete, dec_lt}
use lib.ListN.{length, get_or, set, replicate, length-replicate, length-set, get_or-eq_default}
use lib.Seq.{get_or-set_same, get_or-set_other}
use Rattle.limits.specs.Limits.{most_places, most_links, most_capacity}
use Rattle.flows.specs.declared.Link.{Link}
use Rattle.flows.specs.Sums.{only, gather}
use Rattle.flows.specs.Network.{no_link, link, count, out, into, WellFormed}
use Rattle.flows.proofs.Lists.{get_or_zeros}
use Rattle.flows.proofs.Sums.{sum_eq, only_same, only_other, only_zero, only_most}
use Rattle.statics.specs.Static.{on_link, Balanced}
use Rattle.network.specs.declared.Network.{Network}
use Rattle.network.specs.Held.{links_below, model_of}
use Rattle.network.proofs.Model.{count_model, link_model, lent_count, lent_link}
use Rattle.network.proofs.Links.{is_link, links_few, places_few, origin_in, destination_in, start_in, end_in}
use Rattle.states.specs.declared.State.{State}
use Rattle.states.specs.State.{Sound}
use Rattle.slackness.specs.Fits.{AllFit}
use Rattle.soundness.specs.Tests.{Rises, Gatherable, Gathered, Even}

-- ---- sums at the places

-- the first e links are added up
pub record Gathering (end : Link → ℕ) (links : List Link) (blocks sums : List ℕ) (e : ℕ) : Type 0 where
  pub below : e ≤ length links
  pub size : length sums ≡ most_places
  pub is : (u : ℕ) → get_or sums u 0 ≡ gather (λ i. end (get_or links i no_link)) e (λ i. get_or blocks i 0) u
  pub small : (u : ℕ) → get_or sums u 0 ≤ most_capacity * e

-- they are added up at both ends
pub record GatheringBoth (links : List Link) (blocks out into : List ℕ) (e : ℕ) : Type 0 where
  pub starts : Gathering (λ l. l.start) links blocks out e
  pub ends : Gathering (λ l. l.end) links blocks into e

module _ (end : Link → ℕ) (links : List Link) (blocks : List ℕ) where
  pub gather_begin : (sums : List ℕ) → sums ≡ replicate 64 0 → Gathering end links blocks sums 0
  unfolding gather
  gather_begin sums q =
      rw q
      (record {
        below = omega arith;
        size = length-replicate {A = ℕ} 64 0;
        is = λ u. get_or_zeros 64 u;
        small = λ u. omega (arith, get_or_zeros 64 u);
      })

  module _ (p : Gatherable end links blocks) (sums : List ℕ) (e : ℕ) (g : Gathering end links blocks sums e) (h : e < length links) where
    abbrev place : ℕ
    place = end (get_or links e no_link)

    abbrev more : List ℕ
    more = set sums place (get_or sums place 0 + get_or blocks e 0)

    -- one link further: its blocks are added at its place, and nothing at others
    more_at : (u : ℕ) → get_or more u 0 ≡ get_or sums u 0 + only place u (get_or blocks e 0)
    more_at u =
        elim (ℕ_discrete u place) [
          | yes q ↦
              rw q
              (get_or-set_same sums place _ 0 (omega (arith, g.size, p.ends_in e h))
              ∙ ap (λ (n : ℕ). get_or sums place 0 + n) (sym (only_same place (get_or blocks e 0))))
          | no q ↦
              get_or-set_other sums place u _ 0 q
              ∙ omega (arith, only_other place u (get_or blocks e 0) (λ k. q (sym k)))
        ]

    pub gather_step : Gathering end links blocks more (e + 1)
    unfolding gather
    gather_step =
        record {
          below = omega arith;
          size = length-set sums place _ ∙ g.size;
          is = λ u. rw add-one (more_at u ∙ ap (λ (n : ℕ). n + only place u (get_or blocks e 0)) (g.is u));
          small = λ u. omega (arith, more_at u, g.small u, only_most place u (get_or blocks e 0), p.blocks_most e h);
        }

-- what is added up by the links as they are lent is what the network's links say
module _ (net : Network) (ls : List Link) (lent : ls ≡ links_below net net.count) where
  gather_held : (end : Link → ℕ) (x : List ℕ) (u : ℕ)
      → gather (λ e. end (link (model_of net) e)) (count (model_of net)) (on_link x) u ≡ gather (λ e. end (get_or ls e no_link)) (length ls) (λ e. get_or x e 0) u
  unfolding gather
  gather_held end x u =
      rw (count_model net, lent_count net ls lent)
      (sum_eq net.count (λ e p. ap (λ (l : Link). only (end l) u (get_or x e 0)) (link_model net e p ∙ sym (lent_link net ls lent e p))))

-- ---- the whole

module _ (net : Network) (formed : WellFormed (model_of net)) (s : State) where
  module _ (fit : AllFit (model_of net) s.flow s.potential) where
    blocks_few : (e : ℕ) → e < net.count → get_or s.flow e 0 ≤ most_capacity
    blocks_few e h = omega (arith, fit.within e (is_link net e h), formed.capacity_most e (is_link net e h))

    -- the links as they are lent
    module _ (ls : List Link) (lent : ls ≡ links_below net net.count) where
      known : (e : ℕ) → e < length ls → e < net.count
      known e h = omega (arith, lent_count net ls lent)

      pub starts_gatherable : Gatherable (λ l. l.start) ls s.flow
      starts_gatherable =
          record {
            few = omega (arith, links_few net formed, lent_count net ls lent);
            ends_in = λ e h. rw (lent_link net ls lent e (known e h)) (omega (arith, start_in net e (known e h) formed, places_few net formed));
            blocks_most = λ e h. blocks_few e (known e h);
          }

      pub ends_gatherable : Gatherable (λ l. l.end) ls s.flow
      ends_gatherable =
          record {
            few = omega (arith, links_few net formed, lent_count net ls lent);
            ends_in = λ e h. rw (lent_link net ls lent e (known e h)) (omega (arith, end_in net e (known e h) formed, places_few net formed));
            blocks_most = λ e h. blocks_few e (known e h);
          }

    module _ (ls : List Link) (lent : ls ≡ links_below net net.count) (sent arrived : List ℕ) (g : Gathered (λ l. l.start) ls s.flow sent)
        (h : Gathered (λ l. l.end) ls s.flow arrived) (even : Even sent arrived net.origin net.destination s.value) where
      out_is : (u : ℕ) → out (model_of net) (on_link s.flow) u ≡ get_or sent u 0
      out_is u = gather_held net ls lent (λ l. l.start) s.flow u ∙ sym (g.is u)

      into_is : (u : ℕ) → into (model_of net) (on_link s.flow) u ≡ get_or arrived u 0
      into_is u = gather_held net ls lent (λ l. l.end) s.flow u ∙ sym (h.is u)

      -- past the places all is 0
      even_past : (u : ℕ) → most_places ≤ u → get_or sent u 0 + only net.destination u s.value ≡ get_or arrived u 0 + only net.origin u s.value
      even_past u q =
          omega (
            arith,
            get_or-eq_default sent 0 {n = u} (omega (arith, g.size)),
            get_or-eq_default arrived 0 {n = u} (omega (arith, h.size)),
            only_other net.destination u s.value (omega (arith, destination_in net formed, places_few net formed)),
            only_other net.origin u s.value (omega (arith, origin_in net formed, places_few net formed)),
          )

      even_at : (u : ℕ) → get_or sent u 0 + only net.destination u s.value ≡ get_or arrived u 0 + only net.origin u s.value
      even_at u = elim (dec_lt u most_places) [ yes q ↦ even u q | no q ↦ even_past u (omega arith) ]

      pub balanced : Balanced (model_of net) s.flow s.value (model_of net).origin 0
      unfolding model_of
      balanced u =
          rw add-zero
          (omega (arith, out_is u, into_is u, even_at u, only_zero net.origin u))

    pub sound : Balanced (model_of net) s.flow s.value (model_of net).origin 0 → length s.flow ≡ most_links → length s.potential ≡ most_places → Rises net.origin net.destination s.potential
        → Sound (model_of net) s
    unfolding model_of
    sound even flows potentials rises =
        record {
          flows = flows;
          potentials = potentials;
          primal_dual = record {
            flow = record { within = fit.within; balanced = even };
            slackness = fit.slackness;
            potentials = record { at_origin = rises.at_origin; at_most = λ u q. rises.at_most u };
          };
          at_most = rises.at_most;
          limit = rises.limit;
        }
