-- The least of a list's first numbers, number by number. Assumes nothing.
use mathlib.Core.Path.{◌≡◌, refl}
use mathlib.Core.List.{List}
use Prim.Native.Nat.{ℕ, ◌+◌, min}
use native.Mathlib.Omega.{arith}
use native.Mathlib.Decide.{ℕ_discrete, dec_lt}
use lib.ListN.{get_or}
use Rattle.nearest.specs.Lowest.{Lowest}

module _ (xs : List ℕ) where
  pub least_one : Lowest xs 1 (get_or xs 0 0)
  least_one = record {
    place = 0;
    place_in = omega arith;
    stands = refl;
    most = λ v h. let e : v ≡ 0 = omega arith in rw e (omega arith);
  }

  module _ (n least : ℕ) (l : Lowest xs n least) where
    pub least_more : Lowest xs (n + 1) (min least (get_or xs n 0))
    least_more = elim (dec_lt (get_or xs n 0) least) [
      | yes h ↦
          let e : min least (get_or xs n 0) ≡ get_or xs n 0 = omega arith in
          rw e (record {
            place = n;
            place_in = omega arith;
            stands = refl;
            most = λ v k. elim (ℕ_discrete v n) [ yes d ↦ rw d (omega arith) | no d ↦ omega (arith, l.most v (omega arith)) ];
          })
      | no h ↦
          let e : min least (get_or xs n 0) ≡ least = omega arith in
          rw e (record {
            place = l.place;
            place_in = omega (arith, l.place_in);
            stands = l.stands;
            most = λ v k. elim (ℕ_discrete v n) [ yes d ↦ rw d (omega arith) | no d ↦ l.most v (omega arith) ];
          })
    ]
