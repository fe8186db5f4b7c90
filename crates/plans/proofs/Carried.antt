-- A plan that carries a network's record: the copy at its front is read exactly where it stands there, octet by octet, and what follows is
-- the plan's numbers as before. So reading and writing determine each other, and the size is the sum. Assumes nothing.
use mathlib.Core.Path.{◌≡◌, refl, sym, ap, ◌∙◌}
use mathlib.Core.Bool.{Bool, true, false, cond}
use mathlib.Core.List.{List, [], ◌∷◌, ◌++◌}
use Prim.Native.Nat.{ℕ, ◌≤◌, ◌<◌}
use native.Mathlib.Omega.{arith}
use lib.ListN.{length, take, drop, length-append, take-append-drop}
use lib.Seq.{take_at, drop_at, length-take-le}
use lib.Dec.{T, ltb, eqb, eqb→eq}
use borrow.Author.Tests.{lt-ltb, le-ltb, ltb-false, eq-eqb}
use Rattle.limits.specs.Limits.{most_places, most_links, most_network_octets}
use Rattle.refusals.specs.declared.Refusal.TheVariants.{PlanEnds, AnotherNetwork}
use Rattle.numbers.specs.Leb128.{groups, Octets, shortest}
use Rattle.numbers.specs.Field.{refused, accepted, and_then}
use Rattle.numbers.specs.Numbered.{by_number}
use Rattle.numbers.specs.Writing.{width}
use Rattle.numbers.proofs.Fields.{field_written, written_field, octets_rest}
use Rattle.numbers.proofs.Parses.{then_accepted, accepted_rest}
use Rattle.numbers.proofs.Many.{Proper, then_proper, test_proper, field_proper}
use Rattle.numbers.proofs.Widths.{width_most}
use Rattle.flows.proofs.Sums.{and_split, true_test}
use Rattle.flows.specs.Plan.{Plan}
use Rattle.plans.specs.Record.{number_refusals, number, read_plan, record_of}
use Rattle.plans.specs.Carried.{same, compared, read_copy, read_carrying, carrying}
use Rattle.plans.specs.InLimits.{InLimits}
use Rattle.plans.specs.Longest.{longest_carrying}
use Rattle.plans.proofs.Parts.{plan_in_limits, plan_no_rest, plan_proper}
use Rattle.plans.proofs.RoundTrip.{plan_written, written_plan}
use Rattle.plans.proofs.Size.{longest_plan_record_lem, record_short}

----- Octets that are the same

same_is : (xs ys : List ℕ) → T (same xs ys) → xs ≡ ys
same_is [] [] t = refl
same_is [] (y ∷ ys) t = absurd t
same_is (x ∷ xs) [] t = absurd t
same_is (x ∷ xs) (y ∷ ys) t =
    let a = and_split (eqb x y) (same xs ys) t in
    let e : x ≡ y = eqb→eq x y a.0 in
    let r : xs ≡ ys = same_is xs ys a.1 in
    λ j. e j ∷ r j

pub same_self : (xs : List ℕ) → same xs xs ≡ true
same_self [] = refl
same_self (x ∷ xs) = rw (eq-eqb x x refl, same_self xs)

pub same_equal : (xs ys : List ℕ) → same xs ys ≡ true → xs ≡ ys
same_equal xs ys h = same_is xs ys (true_test (same xs ys) h)

pub same_other : (xs ys : List ℕ) → (xs ≡ ys → ⊥) → same xs ys ≡ false
same_other xs ys d = go (same xs ys) refl
  where
    go : (equal : Bool) → same xs ys ≡ equal → equal ≡ false
    go true e = absurd (d (same_equal xs ys e))
    go false e = refl

----- The copy

-- what is compared and accepted stands at the front
compared_parts : (network : List ℕ) (n : ℕ) (s : List ℕ) (m : ℕ) (rest : List ℕ) → compared network n s ≡ accepted m rest
    → (n ≡ length network) × (s ≡ network ++ rest)
unfolding compared
compared_parts network n s m rest h = go (ltb (length s) n) (same (take n s) network) refl refl h
  where
    go : (short equal : Bool) → ltb (length s) n ≡ short → same (take n s) network ≡ equal
        → cond short (refused PlanEnds) (cond equal (accepted n (drop n s)) (refused AnotherNetwork)) ≡ accepted m rest → (n ≡ length network) × (s ≡ network ++ rest)
    go true equal p q e = absurd (let z : ◌≡◌ {A = ℕ} 0 1 = cc in omega arith)
    go false false p q e = absurd (let z : ◌≡◌ {A = ℕ} 0 1 = cc in omega arith)
    go false true p q e =
        let f : take n s ≡ network = same_equal (take n s) network q in
        let r : drop n s ≡ rest = accepted_rest e in
        let l : n ≤ length s = ltb-false (length s) n p in
        let whole : take n s ++ drop n s ≡ s = take-append-drop n s in
        (omega (arith, ap length f, length-take-le n s l), sym whole ∙ (λ j. f j ++ r j))

copied : (network rest : List ℕ) → compared network (length network) (network ++ rest) ≡ accepted (length network) rest
unfolding compared
copied network rest =
    let l : length network ≤ length (network ++ rest) = rw length-append (omega arith) in
    rw (le-ltb (length (network ++ rest)) (length network) l, take_at network rest (length network) refl, drop_at network rest (length network) refl, same_self network)

compared_proper : (network : List ℕ) (n : ℕ) (s : List ℕ) → Proper s (compared network n s)
unfolding compared
compared_proper network n s =
    test_proper s (ltb (length s) n) PlanEnds _ (go (same (take n s) network))
  where
    go : (equal : Bool) → Proper s (cond equal (accepted n (drop n s)) (refused AnotherNetwork))
    go true = record { front = take n s; split = sym (take-append-drop n s) }
    go false = tt

pub copy_proper : (network s : List ℕ) → Proper s (read_copy network s)
unfolding read_copy
copy_proper network s = then_proper s _ _ (field_proper number_refusals 0 most_network_octets s) λ n s. compared_proper network n s

----- The whole

-- what is refused once the length is read, whatever stands behind: "then a copy cut short under 14", and "23 when the copy isn't the given
-- network"
module _ (network : List ℕ) (places links : ℕ) (s : List ℕ) (n : ℕ) (u : List ℕ) (h : number 0 most_network_octets s ≡ accepted n u) where
  pub copy_cut : length u < n → by_number (read_carrying network places links s) ≡ refused 14
  unfolding read_carrying read_copy compared and_then
  copy_cut short = rw (h, lt-ltb (length u) n short)

  pub copy_other : n ≤ length u → (take n u ≡ network → ⊥) → by_number (read_carrying network places links s) ≡ refused 23
  unfolding read_carrying read_copy compared and_then
  copy_other enough other = rw (h, le-ltb (length u) n enough, same_other (take n u) network other)

module _ (network : List ℕ) (places links : ℕ) (s : List ℕ) (p : Plan) (rest : List ℕ) (h : read_carrying network places links s ≡ accepted p rest) where
  -- the octets after the copy, which are read as the plan
  body : (t : List ℕ) × (n : ℕ) × (u : List ℕ) × (number 0 most_network_octets s ≡ accepted n u) × (n ≡ length network) × (u ≡ network ++ t) × (read_plan places links t ≡ accepted p rest)
  unfolding read_carrying read_copy
  body =
      let a = then_accepted _ _ p rest h in
      let b = then_accepted _ _ a.0 a.1 a.2 in
      let c = compared_parts network b.0 b.1 a.0 a.1 b.3 in
      (a.1, b.0, b.1, b.2, c.0, c.1, a.3)

  pub carrying_in_limits : 1 ≤ links → InLimits places links p
  carrying_in_limits l = let b = body in plan_in_limits places links b.0 p rest l b.6

  pub carrying_no_rest : rest ≡ []
  carrying_no_rest = let b = body in plan_no_rest places links b.0 p rest b.6

  -- what is read was written: "a plan that passes carries the octets of the network it was examined with"
  pub carrying_written : Octets s → s ≡ carrying network p
  unfolding carrying
  carrying_written o =
      let b = body in
      let e : s ≡ shortest groups b.1 ++ b.2 = written_field number_refusals 0 most_network_octets s b.1 b.2 o b.3 in
      let o₁ : Octets b.2 = octets_rest s (shortest groups b.1) b.2 e o in
      let o₂ : Octets b.0 = octets_rest b.2 network b.0 b.5 o₁ in
      let w : b.0 ≡ record_of p = plan_written places links b.0 p rest o₂ b.6 in
      e ∙ (λ j. shortest groups (b.4 j) ++ b.2) ∙ ap (λ (x : List ℕ). shortest groups (length network) ++ x) (b.5 ∙ ap (λ (x : List ℕ). network ++ x) w)

pub carrying_proper : (network : List ℕ) (places links : ℕ) (s : List ℕ) → Proper s (read_carrying network places links s)
unfolding read_carrying
carrying_proper network places links s = then_proper s _ _ (copy_proper network s) λ n s. plan_proper places links s

-- what is written is read
written_copy : (network rest : List ℕ) → length network ≤ most_network_octets
    → read_copy network (shortest groups (length network) ++ (network ++ rest)) ≡ accepted (length network) rest
unfolding read_copy and_then
written_copy network rest h =
    rw (field_written number_refusals 0 most_network_octets (length network) (network ++ rest) (omega arith) h (omega arith)) (copied network rest)

pub written_carrying : (network : List ℕ) (places links : ℕ) (p : Plan) → length network ≤ most_network_octets → links ≤ most_links → InLimits places links p
    → read_carrying network places links (carrying network p) ≡ accepted p []
unfolding read_carrying carrying and_then
written_carrying network places links p h m w = rw (written_copy network (record_of p) h) (written_plan places links p m w)

----- The size

pub longest_carrying_lem : longest_carrying ≡ 37789
unfolding longest_carrying width shortest
longest_carrying_lem =
    let w : width most_network_octets ≡ 2 = refl in
    omega (arith, longest_plan_record_lem)

pub carrying_short : (network : List ℕ) (places links : ℕ) (p : Plan) → length network ≤ most_network_octets → places ≤ most_places → links ≤ most_links
    → InLimits places links p → length (carrying network p) ≤ longest_carrying
unfolding carrying longest_carrying width
carrying_short network places links p h n m w =
    omega (
      arith,
      length-append (shortest groups (length network)) (network ++ record_of p),
      length-append network (record_of p),
      width_most (length network) most_network_octets h,
      record_short places links p n m w,
    )
