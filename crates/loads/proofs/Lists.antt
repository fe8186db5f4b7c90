-- The numbers of a chain stay listed: at the head of the room that they are listed in, sorted there, copied and sorted again.
-- And the links of a network as they are lent. Assumes nothing.
use mathlib.Core.Path.{◌≡◌, ◌∙◌}
use mathlib.Core.List.{List}
use Prim.Native.Nat.{ℕ, ◌≤◌}
use lib.ListN.{length, take}
use lib.Seq.{get_or-take}
use Rattle.std.proofs.lemmas.List.{length-take-le}
use Rattle.sorting.specs.Sorted.{Rearranged}
use Rattle.use_lists.specs.Lists.{Listed, Copied}
use Rattle.use_lists.proofs.Listing.{listed_copy, listed_same}

module _ (prev : List ℕ) (k : ℕ) where
  pub listed_sorted : (order : List ℕ) (count : ℕ) → count ≤ length order → Listed prev k order count
      → (xs : List ℕ) → length xs ≡ length (take count order) → Rearranged (length (take count order)) (take count order) xs
      → Listed prev k xs (length xs)
  listed_sorted order count fits listed xs size same =
      let long : length (take count order) ≡ count = length-take-le count order fits in
      let front : Listed prev k (take count order) count =
      listed_copy prev k order (take count order) count (λ i h. get_or-take count order i 0 h) listed in
      rw (size ∙ long) (listed_same prev k (take count order) xs count (rw long at same) front)

  pub listed_again : (xs to ys : List ℕ) → Listed prev k xs (length xs) → length to ≡ length xs → Copied (length xs) xs to → Rearranged (length to) to ys
      → Listed prev k ys (length xs)
  listed_again xs to ys listed size copied same =
      listed_same prev k to ys (length xs) (rw size at same) (listed_copy prev k xs to (length xs) copied listed)
