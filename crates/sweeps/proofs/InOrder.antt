-- A sweep finds what it looks for. In the slot of a start the rates begun so far are at most all that have begun by it, and for the last start in the slot
-- they are all; the rates ended by it are all that have ended. Assumes nothing.
use mathlib.Core.Path.{◌≡◌, refl, sym, ap, ◌∙◌}
use mathlib.Core.Bool.{true, false, cond}
use mathlib.Core.List.{List}
use Prim.Native.Nat.{ℕ, zero, suc, ◌+◌, ◌-◌, ◌*◌, ◌/◌, ◌^◌, ◌≤◌, ◌<◌, zero-le}
use native.Mathlib.Nat.{le_refl}
use native.Mathlib.Numerals.{add-one}
use native.Mathlib.Omega.{arith}
use native.Mathlib.Decide.{ℕ_discrete, dec_le}
use lib.ListN.{length, get_or}
use borrow.Author.Tests.{le-leb, lt-leb, lt-ltb, le-ltb}
use Rattle.flows.specs.Sums.{sum}
use Rattle.flows.proofs.Sums.{sum_eq, sum_zero, sum_mono, sum_term}
use Rattle.row_uses.specs.Uses.{Columns, columns, entry_in, use_in, chain, load_on, over, over_on, Orderly}
use Rattle.row_uses.proofs.Chain.{chain_eq}
use Rattle.sort_keys.specs.Keys.{key_in}
use Rattle.sorting.specs.Sorted.{Sorted}
use Rattle.use_lists.specs.Lists.{Listed}
use Rattle.sweeps.specs.declared.Ended.{Ended}
use Rattle.sweeps.specs.Sweeps.{LastsOf, rate_of, rates_to, from, rates_by, Ending, EndedAt, TellsOver}
use Rattle.sweeps.proofs.Begun.{chain_begun}

-- ---- sorted keys and a slot

module _ (t r : ℕ → ℕ) (slot : ℕ) where
  -- keys up to p that are not above the slot
  first_all : (p : ℕ) → ((i : ℕ) → i < p → t i ≤ slot) → sum (λ i. from (t i) (r i) slot) p ≡ sum r p
  first_all p low = sum_eq p (λ i h. rw (le-leb (t i) slot (low i h)))

  -- and those from p on are
  first_only : (n p : ℕ) → p ≤ n → ((i : ℕ) → i < p → t i ≤ slot) → ((i : ℕ) → p ≤ i → i < n → slot < t i)
      → sum (λ i. from (t i) (r i) slot) n ≡ sum r p
  first_only zero p h low high = let none : p ≡ 0 = omega arith in rw none
  first_only (suc n) p h low high =
      elim (ℕ_discrete p (suc n)) [
        | yes e ↦ rw e (first_all (suc n) (λ i l. low i (omega arith)))
        | no d ↦
            let none : from (t n) (r n) slot ≡ 0 = rw (lt-leb (t n) slot (high n (omega arith) (le_refl _))) in
            omega (arith, none, first_only n p (omega arith) low (λ i a b. high i a (omega arith)))
      ]

  first_most : (n p : ℕ) → p ≤ n → ((i : ℕ) → i < p → t i ≤ slot) → sum r p ≤ sum (λ i. from (t i) (r i) slot) n
  first_most n p h low = omega (arith, first_all p low, sum_mono (λ i. from (t i) (r i) slot) h)

-- how many keys are not above the slot
record Split (t : ℕ → ℕ) (n slot : ℕ) : Type 0 where
  at : ℕ
  within : at ≤ n
  low : (i : ℕ) → i < at → t i ≤ slot
  high : (i : ℕ) → at ≤ i → i < n → slot < t i

split : (t : ℕ → ℕ) (n slot : ℕ) → ((i j : ℕ) → i ≤ j → j < n → t i ≤ t j) → Split t n slot
split t zero slot sorted = record { at = 0; within = zero-le; low = λ i l. absurd (omega arith); high = λ i a b. absurd (omega arith) }
split t (suc n) slot sorted =
    elim (dec_le (t n) slot) [
      | yes h ↦ record {
        at = suc n;
        within = le_refl _;
        low = λ i l. omega (arith, h, sorted i n (omega arith) (le_refl _));
        high = λ i a b. absurd (omega arith);
      }
      | no h ↦
          let s = split t n slot (λ i j a b. sorted i j a (omega arith)) in
          record {
            at = s.at;
            within = omega (arith, s.within);
            low = s.low;
            high = λ i a b. elim (ℕ_discrete i n) [ yes e ↦ rw e (omega arith) | no d ↦ s.high i a (omega arith) ];
          }
    ]

-- ---- what has ended

module _ (key : ℕ → ℕ) (rates xs : List ℕ) (n slot : ℕ) where
  pub ending_start : Ending key rates xs n slot (record { passed = 0; rates = 0 })
  ending_start = record { within = zero-le; summed = refl; small = zero-le; ended = λ i h. absurd (omega arith) }

  -- one more
  pub ending_step : (passed sum₀ : ℕ) → Ending key rates xs n slot (record { passed = passed; rates = sum₀ }) → passed < n
      → key (get_or xs passed 0) ≤ slot → (rate : ℕ) → rate ≡ rate_of rates (get_or xs passed 0) → rate < 2 ^ 32
      → Ending key rates xs n slot (record { passed = passed + 1; rates = sum₀ + rate })
  ending_step passed sum₀ ending h t rate is small = record {
    within = omega arith;
    summed = rw add-one (omega (arith, ending.summed, is));
    small = omega (arith, ending.small);
    ended = λ i l. elim (ℕ_discrete i passed) [ yes e ↦ rw e t | no d ↦ ending.ended i (omega arith) ];
  }

  pub ended_is : Sorted key xs n → (e : Ended) → EndedAt key rates xs n slot e → e.rates ≡ rates_by key rates xs n slot
  ended_is sorted e at =
      at.ending.summed
      ∙ sym (first_only (λ i. key (get_or xs i 0)) (λ i. rate_of rates (get_or xs i 0)) slot n e.passed at.ending.within at.ending.ended
      (λ i a b. omega (arith, at.next (omega arith), sorted e.passed i a b)))

-- a later slot
pub ending_later : (key : ℕ → ℕ) (rates xs : List ℕ) (n slot later : ℕ) (e : Ended) → slot ≤ later → Ending key rates xs n slot e → Ending key rates xs n later e
ending_later key rates xs n slot later e h ending = record {
  within = ending.within;
  summed = ending.summed;
  small = ending.small;
  ended = λ i l. omega (arith, h, ending.ended i l);
}

-- ---- the uses passed

-- the sweep stands at i: what has begun, what has ended, and no start passed was over
pub record Sweeping (capacity n : ℕ) (starts ends lags firsts lasts rates : List ℕ) (begun : ℕ) (ended : Ended) (i : ℕ) : Type 0 where
  pub within : i ≤ n
  pub begun_is : begun ≡ rates_to rates starts i
  pub begun_small : begun ≤ 2 ^ 32 * i
  pub ending : (slot : ℕ) → ((j : ℕ) → j < i → key_in firsts lags (get_or starts j 0) ≤ slot) → Ending (key_in lasts lags) rates ends n slot ended
  pub fits : (j : ℕ) → j < i → rates_to rates starts (j + 1) ≤ capacity + rates_by (key_in lasts lags) rates ends n (key_in firsts lags (get_or starts j 0))

-- the slot in which the use begins that stands at i
abbrev slot_at : List ℕ → List ℕ → List ℕ → ℕ → ℕ
slot_at firsts lags starts i = key_in firsts lags (get_or starts i 0)

-- ---- what the uses of a chain put in

module _ (n : ℕ) (starts ends lags firsts lasts rates prev departures : List ℕ) (k : ℕ) (k-most : k ≤ 63 * length firsts)
    (orderly : Orderly (columns prev lags firsts departures rates)) (lasts-of : LastsOf firsts departures lasts)
    (listed_starts : Listed prev k starts n) (listed_ends : Listed prev k ends n) where
  -- what has begun by a slot is the load in it and what has ended
  balance : (slot : ℕ)
      → rates_by (key_in firsts lags) rates starts n slot
      ≡ load_on (columns prev lags firsts departures rates) k slot + rates_by (key_in lasts lags) rates ends n slot
  balance slot =
      let c : Columns = columns prev lags firsts departures rates in
      let last_is : (m : ℕ) → m < k → key_in lasts lags m ≡ entry_in c m + (use_in c 0 m).departures =
      λ m l. omega (arith, lasts-of.are (m / 63) (omega arith)) in
      let ended : rates_by (key_in lasts lags) rates ends n slot
      ≡ chain prev (λ m. from (entry_in c m + (use_in c 0 m).departures) (use_in c 0 m).rate slot) k =
      listed_ends.weighs (λ m. from (key_in lasts lags m) (rate_of rates m) slot)
      ∙ chain_eq prev orderly.falls _ _ k (λ m l. ap (λ (x : ℕ). from x (rate_of rates m) slot) (last_is m l)) in
      omega (arith, listed_starts.weighs (λ m. from (key_in firsts lags m) (rate_of rates m) slot), chain_begun c orderly slot k, ended)

  module _ (capacity : ℕ) where
    -- a use in whose slot more than the capacity enters
    over_found : (i : ℕ) → i < n → capacity < load_on (columns prev lags firsts departures rates) k (slot_at firsts lags starts i)
        → true ≡ over_on (columns prev lags firsts departures rates) capacity k
    unfolding over_on
    over_found i h more =
        let c : Columns = columns prev lags firsts departures rates in
        let w : ℕ → ℕ = over c capacity k in
        let one : w (get_or starts i 0) ≡ 1 = ap (λ b. cond b 1 0) (lt-ltb capacity (load_on c k (slot_at firsts lags starts i)) more) in
        sym (lt-ltb 0 (chain prev w k) (omega (arith, one, listed_starts.weighs w, sum_term (λ j. w (get_or starts j 0)) n i h)))

    -- there is none
    over_none : ((i : ℕ) → i < n → load_on (columns prev lags firsts departures rates) k (slot_at firsts lags starts i) ≤ capacity)
        → false ≡ over_on (columns prev lags firsts departures rates) capacity k
    unfolding over_on
    over_none fits =
        let c : Columns = columns prev lags firsts departures rates in
        let w : ℕ → ℕ = over c capacity k in
        let none : sum (λ j. w (get_or starts j 0)) n ≡ 0 =
        sum_eq n (λ j h. ap (λ b. cond b 1 0) (le-ltb capacity (load_on c k (slot_at firsts lags starts j)) (fits j h))) ∙ sum_zero n in
        sym (le-ltb 0 (chain prev w k) (omega (arith, none, listed_starts.weighs w)))

-- ---- the sweep, start by start

module _ (capacity n : ℕ) (starts ends lags firsts lasts rates : List ℕ)
    (sorted-starts : Sorted (key_in firsts lags) starts n) (sorted-ends : Sorted (key_in lasts lags) ends n) where
  pub sweep_start : Sweeping capacity n starts ends lags firsts lasts rates 0 (record { passed = 0; rates = 0 }) 0
  sweep_start = record {
    within = zero-le;
    begun_is = refl;
    begun_small = zero-le;
    ending = λ slot h. ending_start (key_in lasts lags) rates ends n slot;
    fits = λ j h. absurd (omega arith);
  }

  module _ (begun : ℕ) (ended : Ended) (i : ℕ) (state : Sweeping capacity n starts ends lags firsts lasts rates begun ended i) where
    -- no start was over
    pub sweep_end : n ≤ i → TellsOver capacity n starts ends lags firsts lasts rates false
    sweep_end done prev departures k k-most orderly lasts-of listed_starts listed_ends =
        over_none n starts ends lags firsts lasts rates prev departures k k-most orderly lasts-of listed_starts listed_ends capacity (λ j h.
        let t : ℕ → ℕ = slot_at firsts lags starts in
        let r : ℕ → ℕ = λ m. rate_of rates (get_or starts m 0) in
        let s = split t n (t j) sorted-starts in
        let inside : j < s.at = elim (dec_le s.at j) [ yes a ↦ absurd (omega (arith, s.high j a h)) | no a ↦ omega arith ] in
        let last : ℕ = s.at - 1 in
        let same : t last ≡ t j = omega (arith, s.low last (omega arith), sorted-starts j last (omega arith) (omega (arith, s.within))) in
        let all : last + 1 ≡ s.at = omega arith in
        omega (
          arith,
          state.fits last (omega (arith, s.within)),
          ap (rates_to rates starts) all,
          ap (rates_by (key_in lasts lags) rates ends n) same,
          first_only t r (t j) n s.at s.within s.low s.high,
          balance n starts ends lags firsts lasts rates prev departures k k-most orderly lasts-of listed_starts listed_ends (t j),
        ))

    module _ (h : i < n) where
      -- what had ended before the start at i has ended by it
      pub sweep_ending : Ending (key_in lasts lags) rates ends n (slot_at firsts lags starts i) ended
      sweep_ending = state.ending (slot_at firsts lags starts i) (λ j l. sorted-starts j i (omega arith) h)

      module _ (rate : ℕ) (is : rate ≡ rate_of rates (get_or starts i 0)) (next : Ended)
          (at : EndedAt (key_in lasts lags) rates ends n (slot_at firsts lags starts i) next) where
        begun_more : begun + rate ≡ rates_to rates starts (i + 1)
        begun_more = rw add-one (omega (arith, state.begun_is, is))

        all_ended : next.rates ≡ rates_by (key_in lasts lags) rates ends n (slot_at firsts lags starts i)
        all_ended = ended_is (key_in lasts lags) rates ends n (slot_at firsts lags starts i) sorted-ends next at

        pub sweep_step : rate < 2 ^ 32 → begun + rate ≤ capacity + next.rates
            → Sweeping capacity n starts ends lags firsts lasts rates (begun + rate) next (i + 1)
        sweep_step small fits = record {
          within = omega arith;
          begun_is = begun_more;
          begun_small = omega (arith, state.begun_small);
          ending =
              λ later l. ending_later (key_in lasts lags) rates ends n (slot_at firsts lags starts i) later next (l i (omega arith)) at.ending;
          fits =
              λ j l. elim (ℕ_discrete j i) [
                | yes e ↦ rw e (omega (arith, begun_more, fits, all_ended))
                | no d ↦ state.fits j (omega arith)
              ];
        }

        -- the start at i is over
        pub sweep_found : capacity + next.rates < begun + rate → TellsOver capacity n starts ends lags firsts lasts rates true
        sweep_found more prev departures k k-most orderly lasts-of listed_starts listed_ends =
            let t : ℕ → ℕ = slot_at firsts lags starts in
            let r : ℕ → ℕ = λ m. rate_of rates (get_or starts m 0) in
            over_found n starts ends lags firsts lasts rates prev departures k k-most orderly lasts-of listed_starts listed_ends capacity i h
            (omega (
              arith,
              more,
              begun_more,
              all_ended,
              first_most t r (t i) n (i + 1) (omega arith) (λ j l. sorted-starts j i (omega arith) h),
              balance n starts ends lags firsts lasts rates prev departures k k-most orderly lasts-of listed_starts listed_ends (t i),
            ))
