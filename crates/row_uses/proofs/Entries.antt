-- Filed uses: the load of a link's chain is what enters the link, and the test of the slots in which uses begin is the test of all slots.
-- Assumes nothing.
use mathlib.Core.Path.{◌≡◌, refl, sym, ap, ◌∙◌}
use mathlib.Core.Bool.{Bool, true, false, cond}
use mathlib.Core.List.{List}
use Prim.Native.Nat.{ℕ, ◌+◌, ◌≤◌, ◌<◌}
use native.Mathlib.Omega.{arith}
use native.Mathlib.Decide.{ℕ_discrete}
use lib.ListN.{length, get_or}
use lib.Dec.{ltb, ltb→lt}
use borrow.Author.Tests.{ltb-true, ltb-false}
use Rattle.limits.specs.Limits.{most_links}
use Rattle.flows.specs.Sums.{sum, only, some}
use Rattle.flows.specs.declared.Link.{Link}
use Rattle.flows.specs.Network.{no_link}
use Rattle.flows.specs.Rows.{Use, Row, all_uses, enters, entering}
use Rattle.flows.specs.Plan.{overloaded}
use Rattle.flows.proofs.Sums.{sum_pos, sum_term, some_at, some_of, some_no, no_some, test_true, true_test, cond_pos, only_same, only_other, only_pos}
use Rattle.flows.proofs.Uses.{window, enters_only}
use Rattle.flows.proofs.Overload.{use_at, entry_over_test, entries_fit_test}
use Rattle.network.specs.declared.Network.{Network}
use Rattle.network.specs.Held.{link_at, model_of}
use Rattle.network.proofs.Model.{count_model}
use Rattle.network.proofs.Links.{capacity_is}
use Rattle.row_uses.specs.Uses.{Columns, entry_in, use_in, chain, puts, load_on, over, over_on, any_over, Filed}
use Rattle.row_uses.proofs.Chain.{chain_eq}
use Rattle.row_uses.proofs.Filing.{weigh_eq, weigh_sum, weigh_entering}

-- what a use puts into its own link does not depend on the link's number
same_puts : (c : Columns) (e slot m : ℕ) → enters (use_in c e m) e slot ≡ puts c slot m
unfolding window
same_puts c e slot m =
    enters_only (use_in c e m) e slot ∙ only_same e _ ∙ sym (enters_only (use_in c 0 m) 0 slot ∙ only_same 0 _)

-- only uses of a link enter it
own_enters : (u : Use) (e slot : ℕ) → only u.link e (enters u e slot) ≡ enters u e slot
own_enters u e slot =
    elim (ℕ_discrete u.link e) [
      | yes q ↦ ap (λ (a : ℕ). only a e (enters u e slot)) q ∙ only_same e (enters u e slot)
      | no n ↦ only_other u.link e (enters u e slot) n ∙ sym (enters_only u e slot ∙ only_other u.link e (window u slot) n)
    ]

-- ---- link by link

module _ (c : Columns) (links : List Link) (head : List ℕ) (n : ℕ) where
  pub some_link : (e : ℕ) → e < n → over_on c (get_or links e no_link).capacity (get_or head e 0) ≡ true → true ≡ any_over c links head n
  unfolding any_over
  some_link e h t = sym (test_true _ (some_of (λ d. over_on c (get_or links d no_link).capacity (get_or head d 0)) n e h (true_test _ t)))

  pub no_link_lem : ((e : ℕ) → e < n → over_on c (get_or links e no_link).capacity (get_or head e 0) ≡ false) → false ≡ any_over c links head n
  unfolding any_over
  no_link_lem none = sym (no_some (λ d. over_on c (get_or links d no_link).capacity (get_or head d 0)) n none)

-- a test that fails below e, and at e
pub none_more : (t : ℕ → Bool) (e : ℕ) → ((d : ℕ) → d < e → t d ≡ false) → t e ≡ false → (d : ℕ) → d < e + 1 → t d ≡ false
none_more t e none h d below = elim (ℕ_discrete d e) [ yes q ↦ rw q h | no q ↦ none d (omega arith) ]

-- ---- all slots

module _ (net : Network) (rs : List Row) (c : Columns) (head : List ℕ) (n : ℕ) (filed : Filed c head n (all_uses (model_of net) rs)) where
  abbrev all : List Use
  all = all_uses (model_of net) rs

  load_is : (e slot : ℕ) → e < most_links → load_on c (get_or head e 0) slot ≡ entering all e slot
  load_is e slot h =
      chain_eq c.prev filed.orderly.falls _ _ (get_or head e 0) (λ m l. sym (same_puts c e slot m))
      ∙ filed.weighs (λ u. enters u e slot) e h
      ∙ weigh_eq _ _ all (λ u. own_enters u e slot)
      ∙ weigh_entering all e slot

  -- 1 where more than the capacity enters the link e in the slot in which a use begins
  abbrev bad : ℕ → Use → ℕ
  bad e u = cond (ltb ((link_at net e).capacity) (entering all e u.entry)) 1 0

  -- how many uses of the link e have a 1
  abbrev overs : ℕ → ℕ
  overs e = chain c.prev (over c ((link_at net e).capacity) (get_or head e 0)) (get_or head e 0)

  over_is : (e : ℕ) → e < most_links → overs e ≡ sum (λ i. only (use_at all i).link e (bad e (use_at all i))) (length all)
  over_is e h =
      chain_eq c.prev filed.orderly.falls _ _ (get_or head e 0) (λ m l. ap (λ (x : ℕ). cond (ltb ((link_at net e).capacity) x) 1 0) (load_is e (entry_in c m) h))
      ∙ filed.weighs (bad e) e h
      ∙ weigh_sum (λ u. only u.link e (bad e u)) all

  module _ (few : net.count ≤ most_links) where
    -- a link that has such a use
    entry_found : (e : ℕ) → e < net.count → over_on c ((link_at net e).capacity) (get_or head e 0) ≡ true → true ≡ overloaded (model_of net) rs
    unfolding over_on
    entry_found e h t =
        let r = sum_pos (λ i. only (use_at all i).link e (bad e (use_at all i))) (length all) (rw (over_is e (omega arith)) at (ltb-true 0 (overs e) t)) in
        let own : ((use_at all r.0).link ≡ e) × (0 < bad e (use_at all r.0)) = only_pos (use_at all r.0).link e (bad e (use_at all r.0)) r.2 in
        let test : Bool = ltb ((link_at net e).capacity) (entering all e (use_at all r.0).entry) in
        let more : (link_at net e).capacity < entering all e (use_at all r.0).entry = ltb→lt _ _ (cond_pos test 1 own.1).0 in
        sym (entry_over_test (model_of net) rs (record {
          number = r.0;
          below = r.1;
          is_link = omega (arith, own.0, count_model net);
          over = rw (own.0, capacity_is net e h) more;
        }))

    -- links that have none
    entries_fit : ((e : ℕ) → e < net.count → over_on c ((link_at net e).capacity) (get_or head e 0) ≡ false) → false ≡ overloaded (model_of net) rs
    unfolding over_on
    entries_fit none =
        sym (entries_fit_test (model_of net) rs (λ i below is_link.
        let e : ℕ = (use_at all i).link in
        let h : e < net.count = omega (arith, count_model net) in
        let none_over : sum (λ k. only (use_at all k).link e (bad e (use_at all k))) (length all) ≤ 0 =
        rw (over_is e (omega arith)) at (ltb-false 0 (overs e) (none e h)) in
        let fits : bad e (use_at all i) ≤ 0 =
        omega (
          arith,
          none_over,
          sum_term (λ k. only (use_at all k).link e (bad e (use_at all k))) (length all) i below,
          only_same e (bad e (use_at all i)),
        ) in
        rw (capacity_is net e h) (not_over ((link_at net e).capacity) (entering all e (use_at all i).entry) fits)))
      where
        not_over : (x y : ℕ) → cond (ltb x y) 1 0 ≤ 0 → y ≤ x
        not_over x y p = go (ltb x y) refl p
          where
            go : (b : Bool) → ltb x y ≡ b → cond b 1 0 ≤ 0 → y ≤ x
            go true q r = absurd (omega arith)
            go false q r = ltb-false x y q

    pub any_over_lem : any_over c net.links head net.count ≡ overloaded (model_of net) rs
    unfolding any_over
    any_over_lem = go (some test net.count) refl
      where
        test : ℕ → Bool
        test e = over_on c ((link_at net e).capacity) (get_or head e 0)

        go : (b : Bool) → some test net.count ≡ b → some test net.count ≡ overloaded (model_of net) rs
        go true q = let r = some_at test net.count (true_test _ q) in q ∙ entry_found r.0 r.1 (test_true _ r.2)
        go false q = q ∙ entries_fit (λ e h. some_no test net.count q e h)
