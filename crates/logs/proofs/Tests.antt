-- The tests of a log at its entries alone decide the tests over slots: nothing enters a link but in a logged slot, what left a place grows
-- only there, and what arrived never falls. Assumes nothing.
use mathlib.Core.Path.{◌≡◌, sym, ap₂, ◌∙◌}
use mathlib.Core.List.{List}
use mathlib.Core.Bool.{true, false, true≢false}
use Prim.Native.Nat.{ℕ, suc, ◌-◌, ◌≤◌, ◌<◌}
use native.Mathlib.Omega.{arith}
use native.Mathlib.Decide.{dec_lt}
use lib.ListN.{length}
use lib.Dec.{lt→ltb}
use borrow.Author.Tests.{le-ltb}
use Rattle.flows.specs.Sums.{sum, only}
use Rattle.flows.specs.Network.{Network, link, count}
use Rattle.flows.specs.Flow.{left, arrived}
use Rattle.flows.proofs.Sums.{sum_eq, sum_le, some_of, no_some, test_true}
use Rattle.flows.proofs.Slots.{left_eq, arrived_eq}
use Rattle.logs.specs.declared.Entry.{Entry}
use Rattle.logs.specs.Log.{entry, logged, last_slot}
use Rattle.logs.specs.Finding.{overfull, oversends}
use Rattle.logs.specs.Columns.{earlier, puts}
use Rattle.logs.proofs.Sums.{earlier_grows, only_le, gathers_before, within_all, puts_up_to, before_all, up_to_before}

-- the entries' links, slots and blocks, by their numbers
pub record Columns (es : List Entry) (L S B : ℕ → ℕ) : Type 0 where
  pub link_is : (i : ℕ) → i < length es → (entry es i).link ≡ L i
  pub slot_is : (i : ℕ) → i < length es → (entry es i).slot ≡ S i
  pub blocks_is : (i : ℕ) → i < length es → (entry es i).blocks ≡ B i

-- what reading a log tests of it: its links are the network's, and its slots never fall
pub record Sound (links n : ℕ) (L S : ℕ → ℕ) : Type 0 where
  pub known : (i : ℕ) → i < n → L i < links
  pub ordered : (i j : ℕ) → i ≤ j → j < n → S i ≤ S j

module _ (N : Network) (es : List Entry) {L S B : ℕ → ℕ} (c : Columns es L S B) (sound : Sound (count N) (length es) L S) where
  pub logged_puts : (e s : ℕ) → logged es e s ≡ puts L S B (length es) e s
  unfolding logged
  logged_puts e s =
      sum_eq (length es) (λ i p.
      ap₂ (λ (a x : ℕ). only a e x) (c.link_is i p) (ap₂ (λ (a x : ℕ). only a s x) (c.slot_is i p) (c.blocks_is i p)))

  pub left_sum : (v k : ℕ) → left N (logged es) v k ≡ sum (λ i. only (link N (L i)).start v (earlier (S i) k (B i))) (length es)
  left_sum v k =
      left_eq N (logged es) (puts L S B (length es)) v k logged_puts
      ∙ gathers_before L S B (λ e. (link N e).start) (count N) (length es) (λ e. k) v sound.known

  pub arrived_sum : (v k : ℕ)
      → arrived N (logged es) v k ≡ sum (λ i. only (link N (L i)).end v (earlier (S i) (k - (link N (L i)).transit) (B i))) (length es)
  arrived_sum v k =
      arrived_eq N (logged es) (puts L S B (length es)) v k logged_puts
      ∙ gathers_before L S B (λ e. (link N e).end) (count N) (length es) (λ e. k - (link N e).transit) v sound.known

  pub arrived_rises : (v j k : ℕ) → j ≤ k → arrived N (logged es) v j ≤ arrived N (logged es) v k
  arrived_rises v j k p =
      omega (
        arith,
        arrived_sum v j,
        arrived_sum v k,
        sum_le {g = λ i. only (link N (L i)).end v (earlier (S i) (j - (link N (L i)).transit) (B i))}
            {h = λ i. only (link N (L i)).end v (earlier (S i) (k - (link N (L i)).transit) (B i))} (length es)
            (λ i q. only_le (link N (L i)).end v (earlier_grows (S i) (j - (link N (L i)).transit) (k - (link N (L i)).transit) (B i) (omega arith))),
      )

  -- an entry's slot is no later than the last
  in_time : (i : ℕ) → i < length es → S i < suc (last_slot es)
  unfolding last_slot
  in_time i p = omega (arith, sound.ordered i (length es - 1) (omega arith) (omega arith), c.slot_is (length es - 1) (omega arith))

  -- ---- capacities

  -- an entry whose link has taken more than its capacity in its slot
  pub overfull_found : (i : ℕ) → i < length es → (link N (L i)).capacity < puts L S B (suc i) (L i) (S i) → overfull N es ≡ true
  unfolding overfull
  overfull_found i p over =
      let more : (link N (L i)).capacity < logged es (L i) (S i) = omega (arith, logged_puts (L i) (S i), puts_up_to L S B i (length es) p (L i) (S i)) in
      test_true _ (some_of _ (count N) (L i) (sound.known i p) (some_of _ (suc (last_slot es)) (S i) (in_time i p) (lt→ltb _ _ more)))

  -- no entry's link has
  module _ (fit : (i : ℕ) → i < length es → puts L S B (suc i) (L i) (S i) ≤ (link N (L i)).capacity) where
    pub fit_all : (e s : ℕ) → logged es e s ≤ (link N e).capacity
    fit_all e s = omega (arith, logged_puts e s, within_all L S B (λ d. (link N d).capacity) (length es) fit e s)

    pub overfull_none : overfull N es ≡ false
    unfolding overfull
    overfull_none = no_some _ (count N) (λ e p. no_some _ (suc (last_slot es)) (λ s q. le-ltb _ _ (fit_all e s)))

  -- the test up to the last slot logged speaks for all slots
  pub overfull_all : overfull N es ≡ false → (e s : ℕ) → logged es e s ≤ (link N e).capacity
  overfull_all none e s =
      fit_all (λ i p.
      elim (dec_lt (link N (L i)).capacity (puts L S B (suc i) (L i) (S i))) [
        | no q ↦ omega arith
        | yes q ↦ absurd (true≢false (sym (overfull_found i p q) ∙ none))
      ]) e s

  -- ---- what places send

  module _ (v : ℕ) where
    -- what the entries up to the number i took from v
    abbrev pub sent : ℕ → ℕ
    sent i = sum (λ j. only (link N (L j)).start v (B j)) (suc i)

    -- an entry by whose slot v has sent more than had reached it
    pub oversends_found : (i : ℕ) → i < length es → arrived N (logged es) v (suc (S i)) < sent i → oversends N es v ≡ true
    unfolding oversends
    oversends_found i p over =
        let more : arrived N (logged es) v (suc (S i)) < left N (logged es) v (suc (S i)) =
        omega (
          arith,
          left_sum v (suc (S i)),
          up_to_before (λ j. (link N (L j)).start) S B v i (length es) p (λ j q. sound.ordered j i q p),
        ) in
        test_true _ (some_of _ (suc (last_slot es)) (S i) (in_time i p) (lt→ltb _ _ more))

    -- there is none
    module _ (fit : (i : ℕ) → i < length es → sent i ≤ arrived N (logged es) v (suc (S i))) where
      pub sends_all : (k : ℕ) → left N (logged es) v k ≤ arrived N (logged es) v k
      sends_all k =
          omega (
            arith,
            left_sum v k,
            before_all (λ j. (link N (L j)).start) S B v (λ t. arrived N (logged es) v t) (arrived_rises v) (length es) fit k,
          )

      pub oversends_none : oversends N es v ≡ false
      unfolding oversends
      oversends_none = no_some _ (suc (last_slot es)) (λ s q. le-ltb _ _ (sends_all (suc s)))

    -- the test up to the last slot logged speaks for all slots
    pub oversends_all : oversends N es v ≡ false → (k : ℕ) → left N (logged es) v k ≤ arrived N (logged es) v k
    oversends_all none k =
        sends_all (λ i p.
        elim (dec_lt (arrived N (logged es) v (suc (S i))) (sent i)) [
          | no q ↦ omega arith
          | yes q ↦ absurd (true≢false (sym (oversends_found i p q) ∙ none))
        ]) k
