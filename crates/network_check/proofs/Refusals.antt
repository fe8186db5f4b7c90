-- "Write a network. Numbers in record order with 4, 5, 6 as above": what writing refuses, reading refuses with the same number, where the
-- numbers can be written at all. Test by test: both pass, or both refuse. Assumes nothing.
use mathlib.Core.Path.{◌≡◌, refl, ap, subst, ◌∙◌}
use mathlib.Core.List.{List, [], ◌∷◌, ◌++◌, append_assoc, append-nil}
use mathlib.Core.Bool.{Bool, true, false, cond}
use Prim.Native.Nat.{ℕ, ◌-◌, ◌^◌, ◌<◌}
use native.Mathlib.Omega.{arith}
use native.Mathlib.Decide.{dec_lt}
use lib.ListN.{length}
use lib.Dec.{eqb}
use borrow.Author.Tests.{lt-ltb, le-ltb}
use Rattle.std.specs.Prelude.{Ok, Err}
use Rattle.refusals.specs.declared.Refusal.{Refusal}
use Rattle.refusals.specs.declared.Refusal.TheVariants.{SameEnds, LinkLoop}
use Rattle.limits.specs.Limits.{fewest_places, most_places, fewest_links, most_links, most_capacity, most_transit}
use Rattle.numbers.specs.Leb128.{groups, shortest, encode, is}
use Rattle.numbers.specs.Writing.{Fit}
use Rattle.numbers.specs.Field.{Parse, refused, accepted, and_then, limited, field}
use Rattle.numbers.proofs.Groups.{written_read}
use Rattle.numbers.proofs.Written.{encode_cons}
use Rattle.flows.specs.declared.Link.{Link}
use Rattle.flows.specs.Network.{Network}
use Rattle.network.specs.Record.{number_refusals, number, read_link, read_links, read_rest, read_network, link_numbers, numbers_of, record_of}
use Rattle.network_check.specs.Check.{Tested, limit, link_refusal, links_refusal, network_refusal}

-- a part of the record is refused as the tests refuse it, if they do
abbrev Alike : {A : Type 0} → Parse A → Tested → Type 0
Alike p (Ok x) = Unit {0}
Alike p (Err e) = p ≡ refused e

-- the limits of a number that was written
number_limited : (low high n : ℕ) (ns rest : List ℕ) → n < 128 ^ groups
    → number low high (encode (n ∷ ns) ++ rest) ≡ limited number_refusals low high (is n (encode ns ++ rest))
unfolding field
number_limited low high n ns rest b =
    ap (number low high) (ap (λ (r : List ℕ). r ++ rest) (encode_cons n ns) ∙ append_assoc (shortest groups n) (encode ns) rest)
    ∙ ap (limited number_refusals low high) (written_read (groups - 1) n (encode ns ++ rest) b)

module _ {A : Type 0} where
  alike_number : (low high n : ℕ) (ns rest : List ℕ) (k : ℕ → List ℕ → Parse A) (e : Tested) → n < 128 ^ groups
      → Alike (k n (encode ns ++ rest)) e → Alike (and_then (number low high (encode (n ∷ ns) ++ rest)) k) (limit low high n e)
  unfolding and_then limited
  alike_number low high n ns rest k e b a = rw (number_limited low high n ns rest b) (elim (dec_lt n low) [
    | yes l ↦ rw (lt-ltb n low l) refl
    | no g ↦ elim (dec_lt high n) [
      | yes m ↦ rw (le-ltb n low (omega arith), lt-ltb high n m) refl
      | no o ↦ rw (le-ltb n low (omega arith), le-ltb high n (omega arith)) a
    ]
  ])

  alike_test : (t : Bool) (c : Refusal) (p : Parse A) (e : Tested) → Alike p e → Alike (cond t (refused c) p) (cond t (Err c) e)
  alike_test true c p e a = refl
  alike_test false c p e a = a

-- a part that is read in two steps, and what follows it
module _ {A B C : Type 0} where
  then_then : (p : Parse A) (f : A → List ℕ → Parse B) (k : B → List ℕ → Parse C)
      → and_then (and_then p f) k ≡ and_then p (λ a s. and_then (f a s) k)
  unfolding and_then
  then_then (refused e) f k = refl
  then_then (accepted a rest) f k = refl

module _ {A B : Type 0} where
  then_test : (t : Bool) (c : Refusal) (p : Parse A) (k : A → List ℕ → Parse B) → and_then (cond t (refused c) p) k ≡ cond t (refused c) (and_then p k)
  unfolding and_then
  then_test true c p k = refl
  then_test false c p k = refl

----- Links

module _ {A : Type 0} (places : ℕ) where
  alike_link : (l : Link) (ls : List Link) (rest : List ℕ) (k : Link → List ℕ → Parse A) (e : Tested) → Fit (link_numbers (l ∷ ls))
      → Alike (k l (encode (link_numbers ls) ++ rest)) e
      → Alike (and_then (read_link places (encode (link_numbers (l ∷ ls)) ++ rest)) k) (link_refusal places l e)
  unfolding read_link link_refusal and_then
  alike_link l ls rest k e w a =
      rw then_then (alike_number 0 (places - 1) l.start _ rest _ _ w.0
      (rw then_then (alike_number 0 (places - 1) l.end _ rest _ _ w.1.0
      (rw then_test (alike_test (eqb l.start l.end) LinkLoop _ _
      (rw then_then (alike_number 0 most_capacity l.capacity _ rest _ _ w.1.1.0
      (rw then_then (alike_number 0 most_transit l.transit _ rest _ _ w.1.1.1.0 a)))))))))

  alike_links : (ls before : List Link) (rest : List ℕ) (k : List Link → List ℕ → Parse A) → Fit (link_numbers ls)
      → Alike (and_then (read_links (length ls) places (encode (link_numbers ls) ++ rest) before) k) (links_refusal places ls)
  unfolding read_links links_refusal
  alike_links [] before rest k w = tt
  alike_links (l ∷ ls) before rest k w =
      rw then_then (alike_link l ls rest _ _ w (alike_links ls (before ++ (l ∷ [])) rest k w.1.1.1.1))

----- The network

network_alike : (N : Network) → Fit (numbers_of N) → Alike (read_network (record_of N)) (network_refusal N)
unfolding read_network read_rest record_of network_refusal
network_alike N w =
    subst (λ (s : List ℕ). Alike (read_network s) (network_refusal N)) (append-nil (encode (numbers_of N)))
    (alike_number fewest_places most_places N.places _ [] _ _ w.0
    (alike_number 0 (N.places - 1) N.origin _ [] _ _ w.1.0
    (alike_number 0 (N.places - 1) N.destination _ [] _ _ w.1.1.0
    (alike_test (eqb N.destination N.origin) SameEnds _ _
    (alike_number fewest_links most_links (length N.links) _ [] _ _ w.1.1.1.0
    (alike_links N.places N.links [] [] _ w.1.1.1.1))))))

-- what writing refuses for its numbers, reading refuses with the same refusal
pub refused_alike : (N : Network) (e : Refusal) → Fit (numbers_of N) → network_refusal N ≡ Err e → read_network (record_of N) ≡ refused e
refused_alike N e w h = subst (Alike (read_network (record_of N))) h (network_alike N w)
