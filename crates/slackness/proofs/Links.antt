-- Links in the struct's array are the network's links: where each of those fits, all links do. Assumes nothing.
use mathlib.Core.Path.{◌≡◌}
use mathlib.Core.List.{List}
use Prim.Native.Nat.{ℕ, ◌+◌, ◌≤◌, ◌<◌}
use native.Mathlib.Omega.{arith}
use native.Mathlib.Decide.{dec_lt}
use lib.ListN.{length, get_or}
use Rattle.limits.specs.Limits.{most_places, most_links}
use Rattle.flows.specs.declared.Link.{Link}
use Rattle.flows.specs.Network.{no_link, count, WellFormed}
use Rattle.flows.specs.Cut.{number}
use Rattle.network.specs.declared.Network.{Network}
use Rattle.network.specs.Held.{link_at, links_below, model_of}
use Rattle.network.proofs.Model.{count_model, known_link, lent_count, lent_link}
use Rattle.network.proofs.Links.{links_few, places_few, start_in, end_in}
use Rattle.slackness.specs.Fits.{Fits, AllFit}

-- a link, under the blocks of link e and potentials
abbrev FitsAs : Link → List ℕ → List ℕ → ℕ → Type 0
FitsAs l x π e = Fits l.capacity (get_or x e 0) l.transit (number π l.start) (number π l.end)

-- the links below e fit
pub record Fitting (net : Network) (x π : List ℕ) (e : ℕ) : Type 0 where
  pub below : e ≤ net.count
  pub fit : (i : ℕ) → i < e → FitsAs (link_at net i) x π i

all_fit : (net : Network) (x π : List ℕ) → ((e : ℕ) → e < net.count → FitsAs (link_at net e) x π e) → AllFit (model_of net) x π
all_fit net x π h =
    let below : (e : ℕ) → e < count (model_of net) → e < net.count = λ e i. omega (arith, count_model net) in
    record {
      within = λ e i. rw (known_link net e i) (h e (below e i)).within;
      slackness = record {
        room = λ e i. rw (known_link net e i) (h e (below e i)).room;
        used = λ e i. rw (known_link net e i) (h e (below e i)).used;
      };
    }

-- the links as they are lent
module _ (net : Network) (ls : List Link) (lent : ls ≡ links_below net net.count) where
  known : (e : ℕ) → e < length ls → e < net.count
  known e h = omega (arith, lent_count net ls lent)

  module _ (formed : WellFormed (model_of net)) (e : ℕ) (h : e < length ls) where
    pub lent_in : e < most_links
    lent_in = omega (arith, known e h, links_few net formed)

    pub lent_start : (get_or ls e no_link).start < most_places
    lent_start = rw (lent_link net ls lent e (known e h)) (omega (arith, start_in net e (known e h) formed, places_few net formed))

    pub lent_end : (get_or ls e no_link).end < most_places
    lent_end = rw (lent_link net ls lent e (known e h)) (omega (arith, end_in net e (known e h) formed, places_few net formed))

  module _ (x π : List ℕ) (e : ℕ) (f : Fitting net x π e) where
    pub fitting_more : e < length ls → FitsAs (get_or ls e no_link) x π e → Fitting net x π (e + 1)
    fitting_more h one =
        let this = rw (lent_link net ls lent e (known e h)) at one in
        record {
          below = omega (arith, known e h);
          fit = λ i q. elim (dec_lt i e) [
            | yes p ↦ f.fit i p
            | no p ↦ let s : i ≡ e = omega arith in rw s this
          ];
        }

    pub fitting_all : length ls ≤ e → AllFit (model_of net) x π
    fitting_all h = all_fit net x π (λ i q. f.fit i (omega (arith, lent_count net ls lent)))
