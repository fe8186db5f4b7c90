-- The links of a route that is held in an array, from the i-th on. Assumes nothing.
use mathlib.Core.Path.{◌≡◌, refl}
use mathlib.Core.List.{List, [], ◌∷◌}
use Prim.Native.Nat.{ℕ, ◌+◌, ◌≤◌, ◌<◌}
use native.Mathlib.Omega.{arith}
use native.Mathlib.Numerals.{add-one}
use lib.ListN.{length, get_or, take, drop, length-take, drop_of_length-le}
use lib.Seq.{drop-cons, get_or-take}

module _ (links : List ℕ) (count i : ℕ) where
  pub along_next : count ≤ length links → i < count → drop i (take count links) ≡ get_or links i 0 ∷ drop (i + 1) (take count links)
  along_next fits p =
      let q : i < length (take count links) = rw length-take (omega arith) in
      rw (add-one i, drop-cons (take count links) i 0 q, get_or-take count links i 0 p) refl

  pub along_done : count ≤ i → drop i (take count links) ≡ []
  along_done p = drop_of_length-le (take count links) {i = i} (rw length-take (omega arith))
