-- Counting what arrives at a place and what leaves it before a slot, one entry after another. Assumes nothing.
use mathlib.Core.Path.{◌≡◌, refl, sym, ap, ap₂, ◌∙◌}
use mathlib.Core.List.{List, [], ◌∷◌}
use Prim.Native.Nat.{ℕ, suc, ◌+◌, ◌-◌, ◌*◌, ◌≤◌, ◌<◌}
use native.Mathlib.Numerals.{add-one}
use native.Mathlib.Omega.{arith}
use native.Mathlib.Decide.{dec_lt}
use lib.ListN.{length}
use Rattle.limits.specs.Limits.{most_log_blocks, latest_logged_slot}
use Rattle.flows.specs.Sums.{sum, only}
use Rattle.flows.specs.Clock.{counting}
use Rattle.flows.specs.declared.Link.{Link}
use Rattle.flows.specs.Network.{link, count}
use Rattle.flows.specs.Flow.{left, arrived, delivered}
use Rattle.flows.proofs.Sums.{sum_eq, only_most}
use Rattle.network.specs.declared.Network.{Network}
use Rattle.network.specs.Held as network
use Rattle.network.proofs.Model.{count_model, link_model, destination_model}
use Rattle.logs.specs.declared.Entry.{Entry}
use Rattle.logs.specs.Log.{logged, last_slot}
use Rattle.logs.specs.Columns.{link_of, slot_of, blocks_of, earlier, Given}
use Rattle.logs.proofs.Sums.{earlier_yes, earlier_no, earlier_most}
use Rattle.logs.proofs.Tests.{Columns, Sound, left_sum, arrived_sum}
use Rattle.logs.proofs.Columns.{columns_in, sound_in}

-- the last slot of a log that was read
pub last_early : (links : ℕ) (es : List Entry) → Given links es → last_slot es ≤ latest_logged_slot
unfolding last_slot
last_early links [] given = omega arith
last_early links (e ∷ es) given = given.early (length (e ∷ es) - 1) (omega arith)

-- a slot and a transit before a slot
pub earlier_shifted : (s t k x : ℕ) → earlier (s + t) k x ≡ earlier s (k - t) x
earlier_shifted s t k x =
    elim (dec_lt (s + t) k) [
      | yes h ↦ earlier_yes (s + t) k x h ∙ sym (earlier_yes s (k - t) x (omega arith))
      | no h ↦ earlier_no (s + t) k x (omega arith) ∙ sym (earlier_no s (k - t) x (omega arith))
    ]

pub record Counting (net : Network) (es : List Entry) (v k arrivals departures i : ℕ) : Type 0 where
  pub within : i ≤ length es
  pub arrivals_are : arrivals ≡ sum (λ j. only ((network.link_at net (link_of es j)).end) v (earlier (slot_of es j + (network.link_at net (link_of es j)).transit) k (blocks_of es j))) i
  pub departures_are : departures ≡ sum (λ j. only ((network.link_at net (link_of es j)).start) v (earlier (slot_of es j) k (blocks_of es j))) i
  pub arrivals_small : arrivals ≤ most_log_blocks * i
  pub departures_small : departures ≤ most_log_blocks * i

module _ (net : Network) (es : List Entry) (v k : ℕ) where
  pub counting_none : Counting net es v k 0 0 0
  counting_none = record { within = omega arith; arrivals_are = refl; departures_are = refl; arrivals_small = omega arith; departures_small = omega arith }

  module _ (given : Given net.count es) (arrivals departures i : ℕ) (c : Counting net es v k arrivals departures i) (more : i < length es) (a d : ℕ)
      (a-is : a ≡ only ((network.link_at net (link_of es i)).end) v (earlier (slot_of es i + (network.link_at net (link_of es i)).transit) k (blocks_of es i)))
      (d-is : d ≡ only ((network.link_at net (link_of es i)).start) v (earlier (slot_of es i) k (blocks_of es i))) where
    pub arrival_small : a ≤ most_log_blocks
    arrival_small =
        omega (
          arith,
          a-is,
          given.small i more,
          only_most ((network.link_at net (link_of es i)).end) v (earlier (slot_of es i + (network.link_at net (link_of es i)).transit) k (blocks_of es i)),
          earlier_most (slot_of es i + (network.link_at net (link_of es i)).transit) k (blocks_of es i),
        )

    pub departure_small : d ≤ most_log_blocks
    departure_small =
        omega (
          arith,
          d-is,
          given.small i more,
          only_most ((network.link_at net (link_of es i)).start) v (earlier (slot_of es i) k (blocks_of es i)),
          earlier_most (slot_of es i) k (blocks_of es i),
        )

    pub counting_more : Counting net es v k (arrivals + a) (departures + d) (i + 1)
    counting_more = record {
      within = omega arith;
      arrivals_are = rw add-one (omega (arith, c.arrivals_are, a-is));
      departures_are = rw add-one (omega (arith, c.departures_are, d-is));
      arrivals_small = omega (arith, c.arrivals_small, arrival_small);
      departures_small = omega (arith, c.departures_small, departure_small);
    }

-- all entries are counted: arrivals less departures at the archive are what the definition says
module _ (net : Network) (es : List Entry) (given : Given net.count es) where
  columns : Columns es (link_of es) (slot_of es) (blocks_of es)
  columns = columns_in es

  sound : Sound (count (network.model_of net)) (length es) (link_of es) (slot_of es)
  sound = sound_in es net.count _ (sym (count_model net)) given

  -- an entry's link in the model
  model_link : (j : ℕ) → j < length es → link (network.model_of net) (link_of es j) ≡ network.link_at net (link_of es j)
  model_link j q = link_model net (link_of es j) (given.known j q)

  module _ (v k arrivals departures i : ℕ) (c : Counting net es v k arrivals departures i) (all : length es ≤ i) where
    counted : i ≡ length es
    counted = omega (arith, c.within)

    pub arrived_is : arrivals ≡ arrived (network.model_of net) (logged es) v k
    arrived_is =
        c.arrivals_are
        ∙ sum_eq i (λ j p.
        ap₂ (λ (x y : ℕ). only x v y) (sym (ap (λ (l : Link). l.end) (model_link j (omega (arith, c.within)))))
        (earlier_shifted (slot_of es j) ((network.link_at net (link_of es j)).transit) k (blocks_of es j)
        ∙ ap (λ (t : ℕ). earlier (slot_of es j) (k - t) (blocks_of es j)) (sym (ap (λ (l : Link). l.transit) (model_link j (omega (arith, c.within)))))))
        ∙ ap (sum _) counted
        ∙ sym (arrived_sum (network.model_of net) es columns sound v k)

    pub left_is : departures ≡ left (network.model_of net) (logged es) v k
    left_is =
        c.departures_are
        ∙ sum_eq i (λ j p.
        ap (λ (x : ℕ). only x v (earlier (slot_of es j) k (blocks_of es j))) (sym (ap (λ (l : Link). l.start) (model_link j (omega (arith, c.within))))))
        ∙ ap (sum _) counted
        ∙ sym (left_sum (network.model_of net) es columns sound v k)

  pub delivered_is : (v k arrivals departures i : ℕ) → Counting net es v k arrivals departures i → length es ≤ i → v ≡ net.destination
      → k ≡ counting (suc (last_slot es))
      → arrivals - departures ≡ delivered (network.model_of net) (suc (last_slot es)) (logged es)
  unfolding delivered
  delivered_is v k arrivals departures i c all at-archive at_last =
      let place : v ≡ (network.model_of net).destination = at-archive ∙ sym (destination_model net) in
      ap₂ (λ (a d : ℕ). a - d) (arrived_is v k arrivals departures i c all) (left_is v k arrivals departures i c all)
      ∙ ap₂ (λ (u h : ℕ). arrived (network.model_of net) (logged es) u h - left (network.model_of net) (logged es) u h) place at_last
