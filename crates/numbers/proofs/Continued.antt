-- Laws of reading a number group after group: the value of the groups before a position, the weight of the next one and what is read
-- from there on determine the number, and one group more moves its bits from the second to the first. Then one law for each way the
-- code can go on from a position. Assumes nothing.
use mathlib.Core.Path.{◌≡◌, refl, sym, ap, ◌∙◌}
use mathlib.Core.List.{List, ◌∷◌}
use mathlib.Core.Bool.{cond}
use Prim.Native.Nat.{ℕ, zero, suc, ◌+◌, ◌-◌, ◌*◌, ◌%◌, ◌^◌, ◌≤◌, ◌<◌}
use native.Mathlib.Nat.{mul-add, mul_assoc, mul-le-mul_left, pow-le-pow_right}
use native.Mathlib.Numerals.{add-one}
use native.Mathlib.Omega.{arith}
use lib.ListN.{length, get_or, drop, length-drop, drop_of_length-le}
use lib.Seq.{drop-cons}
use lib.Dec.{ltb}
use borrow.Author.Tests.{lt-ltb, le-ltb}
use Rattle.std.specs.Prelude.{Ok, Err}
use Rattle.numbers.specs.declared.Misspelling.TheVariants.{Endless, Ended, Padded}
use Rattle.numbers.specs.Leb128.{Reading, endless, ended, padded, is, joined, read_groups}
use Rattle.numbers.specs.Position.{number_answer, groups_at}
use Rattle.numbers.proofs.Groups.{pow_more, read_last, read_more}

-- what a number is whose groups so far make value, where the next group weighs weight, by what is read from that group on: groups
-- that make 0 pad it, unless they are all that it has
unfoldable pub continued : ℕ → ℕ → Reading → Reading
continued value weight endless = endless
continued value weight ended = ended
continued value weight padded = padded
continued value weight (is zero rest) = cond (ltb 1 weight) padded (is value rest)
continued value weight (is (suc n) rest) = is (value + weight * suc n) rest

-- before the first group nothing is known
continued_all : (r : Reading) → r ≡ continued 0 1 r
unfolding continued
continued_all endless = refl
continued_all ended = refl
continued_all padded = refl
continued_all (is zero rest) = refl
continued_all (is (suc n) rest) = let e : suc n ≡ 0 + 1 * suc n = omega arith in ap (λ (x : ℕ). is x rest) e

continued_is : (value weight n : ℕ) (rest : List ℕ) → 0 < n → continued value weight (is n rest) ≡ is (value + weight * n) rest
unfolding continued
continued_is value weight zero rest h = absurd (omega arith)
continued_is value weight (suc n) rest h = refl

continued_padded : (value weight : ℕ) (rest : List ℕ) → 1 < weight → continued value weight (is 0 rest) ≡ padded
unfolding continued
continued_padded value weight rest h = rw (lt-ltb 1 weight h)

continued_zero : (value weight : ℕ) (rest : List ℕ) → weight ≤ 1 → continued value weight (is 0 rest) ≡ is value rest
unfolding continued
continued_zero value weight rest h = rw (le-ltb 1 weight h)

-- an octet that asks for another group adds its seven bits, and the next group weighs 128 times as much
continued_joined : (value weight b : ℕ) (r : Reading) → 0 < weight
    → continued value weight (joined b r) ≡ continued (value + weight * (b % 128)) (weight * 128) r
unfolding continued joined
continued_joined value weight b endless h = refl
continued_joined value weight b ended h = refl
continued_joined value weight b padded h = refl
continued_joined value weight b (is zero rest) h = sym (continued_padded (value + weight * (b % 128)) (weight * 128) rest (omega arith))
continued_joined value weight b (is (suc n) rest) h =
    let m : weight * (b % 128 + 128 * suc n) ≡ weight * (b % 128) + weight * 128 * suc n = rw (mul-add, mul_assoc) in
    let e : value + weight * (b % 128 + 128 * suc n) ≡ value + weight * (b % 128) + weight * 128 * suc n = omega arith in
    continued_is value weight (b % 128 + 128 * suc n) rest (omega arith) ∙ ap (λ (x : ℕ). is x rest) e

-- the loop's invariant: the number at a position is what the groups before p, of g in all, and the k groups from p on make
pub record Continues (g : ℕ) (s : List ℕ) (at value weight p k : ℕ) : Type 0 where
  pub reads : read_groups g (drop at s) ≡ continued value weight (read_groups k (drop p s))
  pub within : k ≤ g
  pub weighs : weight ≡ 128 ^ (g - k)
  pub below : value < weight

pub continues_all : (g : ℕ) (s : List ℕ) (at : ℕ) → Continues g s at 0 1 at g
continues_all g s at =
    let z : g - g ≡ 0 = omega arith in
    record { reads = continued_all (read_groups g (drop at s)); within = omega arith; weighs = rw z refl; below = omega arith }

-- the ways to read at p, where a group is asked for
read_ended : (k : ℕ) (s : List ℕ) (p : ℕ) → 0 < k → length s ≤ p → read_groups k (drop p s) ≡ ended
unfolding read_groups
read_ended zero s p q h = absurd (omega arith)
read_ended (suc k) s p q h = rw (drop_of_length-le s {i = p} h)

module _ (k : ℕ) (s : List ℕ) (p : ℕ) (q : 0 < k) (h : p < length s) where
  read_at : read_groups k (drop p s) ≡ read_groups (suc (k - 1)) (get_or s p 0 ∷ drop (p + 1) s)
  read_at =
      let e : suc (k - 1) ≡ k = omega arith in
      rw (e, add-one p, drop-cons s p 0 h)

  read_at_last : get_or s p 0 < 128 → read_groups k (drop p s) ≡ is (get_or s p 0) (drop (p + 1) s)
  read_at_last l = read_at ∙ read_last (k - 1) (get_or s p 0) (drop (p + 1) s) l

  read_at_more : 128 ≤ get_or s p 0 → read_groups k (drop p s) ≡ joined (get_or s p 0) (read_groups (k - 1) (drop (p + 1) s))
  read_at_more l = read_at ∙ read_more (k - 1) (get_or s p 0) (drop (p + 1) s) l

-- the code's ways on from p
module _ {g : ℕ} {s : List ℕ} {at value weight p k : ℕ} (i : Continues g s at value weight p k) where
  answer : (r : Reading) → continued value weight (read_groups k (drop p s)) ≡ r → number_answer (length s) r ≡ groups_at g s at
  unfolding groups_at
  answer r e = ap (number_answer (length s)) (sym e ∙ sym i.reads)

  pub continues_endless : k ≡ 0 → Err Endless ≡ groups_at g s at
  unfolding continued read_groups number_answer
  continues_endless h = answer endless (rw h)

  pub continues_ended : 0 < k → length s ≤ p → Err Ended ≡ groups_at g s at
  unfolding continued number_answer
  continues_ended q h = answer ended (ap (continued value weight) (read_ended k s p q h))

  -- a number of g groups is below 128 ^ g, so that the code's sums and products fit
  pub continues_weight : 0 < k → weight * 128 ≤ 128 ^ g
  continues_weight q =
      let m : 128 ^ suc (g - k) ≤ 128 ^ g = pow-le-pow_right (omega arith) {i = suc (g - k)} {j = g} (omega arith) in
      omega (arith, pow_more (g - k))

  pub continues_room : 0 < k → (a : ℕ) → a < 128 → value + weight * a < 128 ^ g
  continues_room q a l = omega (arith, continues_weight q, mul-le-mul_left {m = a} {n = 127} weight (omega arith))

  -- the octet at p
  module _ (q : 0 < k) (h : p < length s) (a : ℕ) (o : a ≡ get_or s p 0) where
    last : (r : Reading) → a < 128 → continued value weight (is a (drop (p + 1) s)) ≡ r → number_answer (length s) r ≡ groups_at g s at
    last r l e = answer r (ap (continued value weight) (read_at_last k s p q h (omega arith) ∙ ap (λ (x : ℕ). is x (drop (p + 1) s)) (sym o)) ∙ e)

    number : (n : ℕ) → a < 128 → continued value weight (is a (drop (p + 1) s)) ≡ is n (drop (p + 1) s) → Ok (record { value = n; next = p + 1 }) ≡ groups_at g s at
    unfolding number_answer
    number n l e =
        let d : p + 1 ≡ length s - length (drop (p + 1) s) = rw length-drop (omega arith) in
        ap (λ (x : ℕ). Ok (record { value = n; next = x })) d ∙ last (is n (drop (p + 1) s)) l e

    pub continues_is : a < 128 → 0 < a → Ok (record { value = value + weight * a; next = p + 1 }) ≡ groups_at g s at
    continues_is l z = number (value + weight * a) l (continued_is value weight a (drop (p + 1) s) z)

    pub continues_padded : a ≡ 0 → 1 < weight → Err Padded ≡ groups_at g s at
    unfolding number_answer
    continues_padded z w = last padded (omega arith) (rw z (continued_padded value weight (drop (p + 1) s) w))

    pub continues_zero : a ≡ 0 → weight ≤ 1 → Ok (record { value = value + weight * a; next = p + 1 }) ≡ groups_at g s at
    continues_zero z w =
        let v : value ≡ value + weight * 0 = omega arith in
        number (value + weight * a) (omega arith) (rw z (continued_zero value weight (drop (p + 1) s) w ∙ ap (λ (x : ℕ). is x (drop (p + 1) s)) v))

    pub continues_more : 128 ≤ a → Continues g s at (value + weight * (a % 128)) (weight * 128) (p + 1) (k - 1)
    continues_more l =
        let e : g - (k - 1) ≡ suc (g - k) = omega (arith, i.within) in
        record {
          reads = i.reads ∙ ap (continued value weight) (read_at_more k s p q h (omega arith) ∙ ap (λ (x : ℕ). joined x (read_groups (k - 1) (drop (p + 1) s))) (sym o))
              ∙ continued_joined value weight a (read_groups (k - 1) (drop (p + 1) s)) (omega (arith, i.below));
          within = omega (arith, i.within);
          weighs = rw e (omega (arith, i.weighs, pow_more (g - k)));
          below = omega (arith, i.below, mul-le-mul_left {m = a % 128} {n = 127} weight (omega arith));
        }
