-- A chain listed number by number: what is listed and what is still to come weigh what the chain does. Assumes nothing.
use mathlib.Core.Path.{◌≡◌, ap, ◌∙◌}
use mathlib.Core.List.{List}
use Prim.Native.Nat.{ℕ, ◌+◌, ◌-◌, ◌≤◌, ◌<◌}
use native.Mathlib.Nat.{le_refl}
use native.Mathlib.Numerals.{add-one}
use native.Mathlib.Omega.{arith}
use native.Mathlib.Decide.{ℕ_discrete}
use lib.ListN.{length, get_or, set}
use lib.Seq.{get_or-set_same, get_or-set_other}
use Rattle.flows.specs.Sums.{sum}
use Rattle.flows.proofs.Sums.{sum_eq}
use Rattle.row_uses.specs.Uses.{chain}
use Rattle.row_uses.proofs.Chain.{chain_none, chain_first}
use Rattle.sorting.specs.Sorted.{Rearranged}
use Rattle.sorting.proofs.Moves.{same_numbers}
use Rattle.use_lists.specs.Lists.{Falling, Listed, Copied}

-- the first j numbers are listed, and the chain goes on at k
pub record Listing (prev : List ℕ) (start : ℕ) (xs : List ℕ) (j k : ℕ) : Type 0 where
  pub within : k ≤ start
  pub weighs : (w : ℕ → ℕ) → sum (λ i. w (get_or xs i 0)) j + chain prev w k ≡ chain prev w start
  pub below : (i : ℕ) → i < j → get_or xs i 0 < start

module _ (prev : List ℕ) (falls : Falling prev) (start : ℕ) where
  pub list_start : (xs : List ℕ) → Listing prev start xs 0 start
  list_start xs = record { within = le_refl start; weighs = λ w. omega arith; below = λ i h. absurd (omega arith) }

  module _ (xs : List ℕ) (j k : ℕ) (listing : Listing prev start xs j k) where
    pub list_step : 0 < k → j < length xs → Listing prev start (set xs j (k - 1)) (j + 1) (get_or prev (k - 1) 0)
    list_step p h =
        let at : ℕ = k - 1 in
        let kept : (i : ℕ) → i < j → get_or (set xs j at) i 0 ≡ get_or xs i 0 = λ i l. get_or-set_other xs j i at 0 (λ e. omega arith) in
        let here : get_or (set xs j at) j 0 ≡ at = get_or-set_same xs j at 0 h in
        record {
          within = omega (arith, listing.within, falls at);
          weighs =
              λ w. let more : sum (λ i. w (get_or (set xs j at) i 0)) (j + 1) ≡ sum (λ i. w (get_or xs i 0)) j + w at =
              rw add-one (omega (arith, sum_eq {g = λ i. w (get_or (set xs j at) i 0)} {h = λ i. w (get_or xs i 0)} j (λ i l. ap w (kept i l)), ap w here)) in
              let next : chain prev w k ≡ w at + chain prev w (get_or prev at 0) = ap (chain prev w) (omega arith) ∙ chain_first prev falls w at in
              omega (arith, more, next, listing.weighs w);
          below =
              λ i l. elim (ℕ_discrete i j) [
                | yes e ↦ rw (e, here) (omega (arith, listing.within))
                | no n ↦ rw (kept i (omega arith)) (listing.below i (omega arith))
              ];
        }

    pub list_end : k ≤ 0 → Listed prev start xs j
    list_end p = record {
      weighs = λ w. let none : chain prev w k ≡ 0 = ap (chain prev w) (omega arith) ∙ chain_none prev falls w in omega (arith, none, listing.weighs w);
      below = listing.below;
    }

-- a copy
pub listed_copy : (prev : List ℕ) (k : ℕ) (xs ys : List ℕ) (n : ℕ) → Copied n xs ys → Listed prev k xs n → Listed prev k ys n
listed_copy prev k xs ys n same listed = record {
  weighs = λ w. sum_eq n (λ i h. ap w (same i h)) ∙ listed.weighs w;
  below = λ i h. rw (same i h) (listed.below i h);
}

-- another order
pub listed_same : (prev : List ℕ) (k : ℕ) (xs ys : List ℕ) (n : ℕ) → Rearranged n xs ys → Listed prev k xs n → Listed prev k ys n
listed_same prev k xs ys n same listed = record {
  weighs = λ w. same w ∙ listed.weighs w;
  below = same_numbers n k xs ys same listed.below;
}
