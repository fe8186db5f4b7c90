-- What is due at a place, entry by entry: summed over the entries up to one, it is what has arrived by that entry's slot, since each entry's
-- blocks are due at the first entry by whose slot they have arrived. Assumes nothing.
use mathlib.Core.Path.{◌≡◌, refl, sym, ap, ap₂, ◌∙◌}
use mathlib.Core.Logic.{◌≢◌}
use mathlib.Core.List.{List}
use mathlib.Core.Bool.{Bool, true, false, not, ◌&&◌, ◌||◌}
use Prim.Native.Nat.{ℕ, zero, suc, ◌+◌, ◌-◌, ◌*◌, ◌≤◌, ◌<◌}
use native.Mathlib.Nat.{le_refl}
use native.Mathlib.Numerals.{add-one}
use native.Mathlib.Omega.{arith}
use native.Mathlib.Decide.{ℕ_discrete, dec_lt}
use lib.ListN.{length, get_or, set, replicate, length-set, length-replicate}
use lib.Seq.{get_or-set_same, get_or-set_other}
use lib.Dec.{ltb, eqb, lt→ltb, ltb→lt}
use borrow.Author.Tests.{le-ltb, ltb-false, eq-eqb, ne_eqb}
use Rattle.limits.specs.Limits.{most_log_entries, most_log_blocks}
use Rattle.flows.specs.Sums.{sum, only, some}
use Rattle.flows.specs.declared.Link.{Link}
use Rattle.flows.specs.Network.{link, count, WellFormed}
use Rattle.flows.specs.Flow.{arrived}
use Rattle.flows.proofs.Sums.{sum_eq, sum_most, only_same, only_other, only_most, some_at, some_of, no_some, some_no, test_true, true_test}
use Rattle.flows.proofs.Lists.{get_or_zeros}
use Rattle.network.specs.declared.Network.{Network}
use Rattle.network.specs.Held as network
use Rattle.network.proofs.Model.{count_model, link_model, places_model, origin_model}
use Rattle.logs.specs.declared.Entry.{Entry}
use Rattle.logs.specs.Log.{logged}
use Rattle.logs.specs.Columns.{nth, link_of, slot_of, blocks_of, earlier, Given}
use Rattle.logs.specs.Finding.{oversends, oversent}
use Rattle.logs.proofs.Sums.{earlier_yes, earlier_no, puts_before}
use Rattle.logs.proofs.Tests.{Columns, Sound, arrived_sum, sent, oversends_found, oversends_none}
use Rattle.logs.proofs.Columns.{columns_in, sound_in, linked, short}
use Rattle.log_arrivals.specs.Arrivals.{Sized, Firsts}
use Rattle.log_balances.specs.Balances.{start_of, end_of, due_to, due_at, sends_more, place_fails}

-- ---- adding up what is due

pub record Filling (v : ℕ) (net : Network) (es : List Entry) (first due : List ℕ) (i : ℕ) : Type 0 where
  pub size : length due ≡ 4097
  pub holds : (x : ℕ) → nth due x ≡ due_to v i net es first x

module _ (v : ℕ) (net : Network) (es : List Entry) (first : List ℕ) (given : Given net.count es) where
  pub filling_none : (due : List ℕ) → due ≡ replicate 4097 0 → Filling v net es first due 0
  filling_none due e = record {
    size = ap length e ∙ length-replicate {A = ℕ} 4097 0;
    holds = λ x. ap (λ (xs : List ℕ). get_or xs x 0) e ∙ get_or_zeros 4097 x;
  }

  module _ (due : List ℕ) (i : ℕ) (f : Filling v net es first due i) (more : i < length es) where
    pub due_small : (x y : ℕ) → y ≤ blocks_of es i → nth due x + y ≤ most_log_blocks * most_log_entries
    due_small x y p =
        omega (
          arith,
          f.holds x,
          given.few,
          given.small i more,
          sum_most (λ j. only (end_of net es j) v (only (nth first j) x (blocks_of es j))) most_log_blocks i (λ j q.
              omega (
                arith,
                only_most (end_of net es j) v (only (nth first j) x (blocks_of es j)),
                only_most (nth first j) x (blocks_of es j),
                given.small j (omega arith),
              )),
        )

    pub filling_more : (y : ℕ) → y ≡ only (end_of net es i) v (blocks_of es i) → nth first i < 4097
        → Filling v net es first (set due (nth first i) (nth due (nth first i) + y)) (i + 1)
    filling_more y e room = record {
      size = length-set due (nth first i) _ ∙ f.size;
      holds =
          λ x. rw add-one (elim (ℕ_discrete x (nth first i)) [
            | yes q ↦
                let put : nth (set due (nth first i) (nth due (nth first i) + y)) x ≡ nth due x + y = rw q (get_or-set_same due (nth first i) _ 0 (omega (arith, f.size))) in
                let one : only (nth first i) x (blocks_of es i) ≡ blocks_of es i = rw q (only_same (nth first i) (blocks_of es i)) in
                put ∙ omega (arith, f.holds x, ap (only (end_of net es i) v) one)
            | no q ↦
                get_or-set_other due (nth first i) x _ 0 q
                ∙ omega (arith, f.holds x, ap (only (end_of net es i) v) (only_other (nth first i) x (blocks_of es i) (λ z. q (sym z))), only_none (end_of net es i) v)
          ]);
    }
      where
        only_none : (a w : ℕ) → only a w 0 ≡ 0
        only_none a w = elim (ℕ_discrete a w) [ yes q ↦ rw q (only_same w 0) | no q ↦ only_other a w 0 q ]

-- ---- the test of one place

some_eq : (t u : ℕ → Bool) (n : ℕ) → ((i : ℕ) → i < n → t i ≡ u i) → some t n ≡ some u n
some_eq t u zero h = refl
some_eq t u (suc n) h = ap₂ ◌||◌ (some_eq t u n (λ i p. h i (omega arith))) (h n (le_refl _))

-- it depends on what is due at the entries alone
pub sends_same : (v : ℕ) (net : Network) (es : List Entry) (due other : ℕ → ℕ) → ((x : ℕ) → x ≤ length es → due x ≡ other x)
    → sends_more v net es due ≡ sends_more v net es other
unfolding sends_more
sends_same v net es due other h =
    some_eq _ _ (length es) (λ i p.
    ap (λ (x : ℕ). ltb x (sum (λ j. only (start_of net es j) v (blocks_of es j)) (suc i))) (sum_eq (suc i) (λ x q. h x (omega arith))))

pub record Weighing (v : ℕ) (net : Network) (es : List Entry) (due : List ℕ) (arrived left i : ℕ) : Type 0 where
  pub arrived_is : arrived ≡ sum (nth due) i
  pub left_is : left ≡ sum (λ j. only (start_of net es j) v (blocks_of es j)) i
  pub arrived_small : arrived ≤ 4294967296 * i
  pub left_small : left ≤ 4294967296 * i
  pub fit : (j : ℕ) → j < i → sum (λ k. only (start_of net es k) v (blocks_of es k)) (suc j) ≤ sum (nth due) (suc j)

module _ (v : ℕ) (net : Network) (es : List Entry) (due : List ℕ) where
  pub weighing_none : Weighing v net es due 0 0 0
  weighing_none =
      record { arrived_is = refl; left_is = refl; arrived_small = omega arith; left_small = omega arith; fit = λ j p. absurd (omega arith) }

  module _ (arrived left i : ℕ) (w : Weighing v net es due arrived left i) where
    module _ (more : i < length es) (a l : ℕ) (a-is : a ≡ nth due i) (l-is : l ≡ only (start_of net es i) v (blocks_of es i)) where
      pub weighing_over : arrived + a < left + l → sends_more v net es (nth due) ≡ true
      unfolding sends_more
      weighing_over h =
          let over : sum (nth due) (suc i) < sum (λ j. only (start_of net es j) v (blocks_of es j)) (suc i) = omega (arith, w.arrived_is, w.left_is) in
          test_true _ (some_of _ (length es) i more (lt→ltb _ _ over))

      pub weighing_more : a < 4294967296 → l < 4294967296 → left + l ≤ arrived + a → Weighing v net es due (arrived + a) (left + l) (i + 1)
      weighing_more p q h = record {
        arrived_is = rw add-one (omega (arith, w.arrived_is));
        left_is = rw add-one (omega (arith, w.left_is));
        arrived_small = omega (arith, w.arrived_small);
        left_small = omega (arith, w.left_small);
        fit =
            λ j r. elim (ℕ_discrete j i) [
              | yes e ↦ rw e (omega (arith, w.arrived_is, w.left_is))
              | no e ↦ w.fit j (omega arith)
            ];
      }

    pub weighing_all : length es ≤ i → sends_more v net es (nth due) ≡ false
    unfolding sends_more
    weighing_all h = no_some _ (length es) (λ j p. le-ltb _ _ (w.fit j (omega arith)))

module _ (v : ℕ) (net : Network) (es : List Entry) (first : List ℕ) where
  pub fails_origin : v ≡ net.origin → false ≡ place_fails v net es first
  unfolding place_fails
  fails_origin e = rw (eq-eqb v net.origin e)

  pub fails_sends : (due : List ℕ) → v ≢ net.origin → ((x : ℕ) → x ≤ length es → nth due x ≡ due_at v net es first x)
      → sends_more v net es (nth due) ≡ place_fails v net es first
  unfolding place_fails
  fails_sends due q h = rw (ne_eqb v net.origin q) (sends_same v net es (nth due) (due_at v net es first) h)

-- ---- a place of the network

module _ (net : Network) (es : List Entry) (given : Given net.count es) (first : List ℕ) (firsts : Firsts es net.links first) where
  columns : Columns es (link_of es) (slot_of es) (blocks_of es)
  columns = columns_in es

  sound : Sound (count (network.model_of net)) (length es) (link_of es) (slot_of es)
  sound = sound_in es net.count _ (sym (count_model net)) given

  -- an entry's link in the model
  model_link : (j : ℕ) → j < length es → link (network.model_of net) (link_of es j) ≡ network.link_at net (link_of es j)
  model_link j q = link_model net (link_of es j) (given.known j q)

  -- an entry's blocks are due up to the entry i exactly if they have arrived by its slot
  same_time : (i j : ℕ) → i < length es → j < length es → (x : ℕ)
      → earlier (nth first j) (suc i) x ≡ earlier (slot_of es j) (suc (slot_of es i) - (network.link_at net (link_of es j)).transit) x
  same_time i j p q x =
      elim (dec_lt (nth first j) (suc i)) [
        | yes h ↦ earlier_yes _ _ x h ∙ sym (earlier_yes _ _ x (omega (arith, (firsts j q).above i (omega arith) p)))
        | no h ↦ earlier_no _ _ x (omega arith) ∙ sym (earlier_no _ _ x (omega (arith, (firsts j q).below i (omega arith))))
      ]

  module _ (v : ℕ) where
    abbrev dues : ℕ → ℕ
    dues x = due_at v net es first x

    due_arrived : (i : ℕ) → i < length es → sum dues (suc i) ≡ arrived (network.model_of net) (logged es) v (suc (slot_of es i))
    due_arrived i p =
        puts_before (end_of net es) (nth first) (blocks_of es) (length es) v (suc i)
        ∙ sum_eq (length es) (λ j q.
        ap₂ (λ (a x : ℕ). only a v x) (sym (ap (λ (l : Link). l.end) (model_link j q)))
        (same_time i j p q (blocks_of es j)
        ∙ ap (λ (t : ℕ). earlier (slot_of es j) (suc (slot_of es i) - t) (blocks_of es j)) (sym (ap (λ (l : Link). l.transit) (model_link j q)))))
        ∙ sym (arrived_sum (network.model_of net) es columns sound v (suc (slot_of es i)))

    sent_is : (i : ℕ) → i < length es
        → sum (λ j. only (start_of net es j) v (blocks_of es j)) (suc i) ≡ sent (network.model_of net) es columns sound v i
    sent_is i p =
        sum_eq (suc i) (λ j q.
        ap (λ (a : ℕ). only a v (blocks_of es j)) (sym (ap (λ (l : Link). l.start) (model_link j (omega arith)))))

    sends_oversends : sends_more v net es dues ≡ oversends (network.model_of net) es v
    unfolding sends_more
    sends_oversends = go _ refl
      where
        takes : ℕ → ℕ
        takes i = sum (λ j. only (start_of net es j) v (blocks_of es j)) (suc i)

        test : ℕ → Bool
        test i = ltb (sum dues (suc i)) (takes i)

        go : (b : Bool) → some test (length es) ≡ b → some test (length es) ≡ oversends (network.model_of net) es v
        go true e =
            let w = some_at test (length es) (true_test _ e) in
            e ∙ sym (oversends_found (network.model_of net) es columns sound v w.0 w.1
            (omega (arith, ltb→lt (sum dues (suc w.0)) (takes w.0) w.2, due_arrived w.0 w.1, sent_is w.0 w.1)))
        go false e =
            e ∙ sym (oversends_none (network.model_of net) es columns sound v (λ i p.
            let fits : test i ≡ false = some_no test (length es) e i p in
            omega (arith, ltb-false (sum dues (suc i)) (takes i) fits, due_arrived i p, sent_is i p)))

    pub place_tells : place_fails v net es first
        ≡ (not (eqb v (network.model_of net).origin) && oversends (network.model_of net) es v)
    unfolding place_fails
    place_tells = ap₂ (λ (o : ℕ) (b : Bool). not (eqb v o) && b) (sym (origin_model net)) sends_oversends

  -- some place fails, or none does
  pub sent_found : (v : ℕ) → v < net.places → place_fails v net es first ≡ true
      → oversent (network.model_of net) es ≡ true
  unfolding oversent
  sent_found v p e = test_true _ (some_of _ (network.model_of net).places v (omega (arith, places_model net)) (true_test _ (sym (place_tells v) ∙ e)))

  pub sent_none : ((v : ℕ) → v < net.places → place_fails v net es first ≡ false)
      → oversent (network.model_of net) es ≡ false
  unfolding oversent
  sent_none h = no_some _ (network.model_of net).places (λ v p. sym (place_tells v) ∙ h v (omega (arith, places_model net)))

-- ---- what the code asks

pub given_sized : (net : Network) (es : List Entry) → WellFormed (network.model_of net) → Given net.count es → Sized es net.links
given_sized net es formed given = record {
  few = given.few;
  known = linked net es formed given;
  ordered = given.ordered;
  early = given.early;
  short = short net es formed given;
}

-- no place below v fails
pub record Passed (net : Network) (es : List Entry) (first : List ℕ) (v : ℕ) : Type 0 where
  pub fit : (w : ℕ) → w < v → place_fails w net es first ≡ false
