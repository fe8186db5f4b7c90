-- What the findings mean, over all slots: 0 exactly when the log keeps capacities and no place but the origin sends more by any slot than
-- reached it by then, 1 exactly when a capacity is broken, 2 exactly otherwise. The tests up to the last slot logged speak for all slots.
-- Assumes nothing.
use mathlib.Core.Path.{◌≡◌, refl}
use mathlib.Core.Logic.{◌↔◌, ◌≢◌}
use mathlib.Core.List.{List, []}
use mathlib.Core.Bool.{Bool, true, false, not, ◌&&◌}
use Prim.Native.Nat.{ℕ, zero, suc, ◌+◌, ◌≤◌, ◌<◌, zero-le}
use native.Mathlib.Omega.{arith}
use lib.ListN.{length}
use lib.Dec.{T, ltb, eqb, ltb→lt}
use borrow.Author.Tests.{eq-eqb, ne_eqb}
use Rattle.flows.specs.Sums.{some}
use Rattle.flows.specs.Clock.{counting}
use Rattle.flows.specs.Network.{Network, link, count, Connects}
use Rattle.flows.specs.Flow.{left, arrived, delivered}
use Rattle.flows.proofs.Sums.{gather_zero, some_at, some_no, and_split, true_test}
use Rattle.flows.proofs.Slots.{left_eq, arrived_eq, left_none, arrived_none}
use Rattle.logs.specs.declared.Entry.{Entry}
use Rattle.logs.specs.Log.{entry, logged, last_slot}
use Rattle.logs.specs.Finding.{overfull, oversends, oversent, finding, figure}
use Rattle.logs.proofs.Tests.{Columns, Sound, overfull_all, oversends_all}
use Rattle.logs.proofs.Findings.{finding_one, finding_two, finding_zero, figure_zero}

-- ---- what is found, in a flow's own terms

-- "the log keeps capacities and no place but the origin sends more by any slot than reached it by then"
pub record Keeps (N : Network) (f : ℕ → ℕ → ℕ) : Type 0 where
  pub within : (e s : ℕ) → e < count N → f e s ≤ (link N e).capacity
  pub conserved : (v s : ℕ) → v < N.places → v ≢ N.origin → left N f v (suc s) ≤ arrived N f v (suc s)

-- a capacity is broken
pub record Overfull (N : Network) (f : ℕ → ℕ → ℕ) : Type 0 where
  pub at_link : ℕ
  pub at_slot : ℕ
  pub is_link : at_link < count N
  pub over : (link N at_link).capacity < f at_link at_slot

-- a place but the origin has sent too much by some slot
pub record Oversent (N : Network) (f : ℕ → ℕ → ℕ) : Type 0 where
  pub at_place : ℕ
  pub at_slot : ℕ
  pub is_place : at_place < N.places
  pub no_origin : at_place ≢ N.origin
  pub over : arrived N f at_place (suc at_slot) < left N f at_place (suc at_slot)

-- a log as reading gives it: its links are the network's, its slots never fall
abbrev pub Ready : Network → List Entry → Type 0
Ready N es = Sound (count N) (length es) (λ i. (entry es i).link) (λ i. (entry es i).slot)

pub own : (es : List Entry) → Columns es (λ i. (entry es i).link) (λ i. (entry es i).slot) (λ i. (entry es i).blocks)
own es = record { link_is = λ i p. refl; slot_is = λ i p. refl; blocks_is = λ i p. refl }

module _ (N : Network) (es : List Entry) where
  -- ---- the tests find what they are named for

  overfull_is : overfull N es ≡ true → Overfull N (logged es)
  unfolding overfull
  overfull_is e =
      let r = some_at (λ d. some (λ s. ltb (link N d).capacity (logged es d s)) (suc (last_slot es))) (count N) (true_test _ e) in
      let q = some_at (λ s. ltb (link N r.0).capacity (logged es r.0 s)) (suc (last_slot es)) r.2 in
      record { at_link = r.0; at_slot = q.0; is_link = r.1; over = ltb→lt _ _ q.2 }

  oversent_is : oversent N es ≡ true → Oversent N (logged es)
  unfolding oversent oversends
  oversent_is e =
      let r =
      some_at (λ v. not (eqb v N.origin) && some (λ s. ltb (arrived N (logged es) v (suc s)) (left N (logged es) v (suc s))) (suc (last_slot es))) N.places (true_test _ e) in
      let a = and_split (not (eqb r.0 N.origin)) _ r.2 in
      let q = some_at (λ s. ltb (arrived N (logged es) r.0 (suc s)) (left N (logged es) r.0 (suc s))) (suc (last_slot es)) a.1 in
      record { at_place = r.0; at_slot = q.0; is_place = r.1; no_origin = λ z. other z a.0; over = ltb→lt _ _ q.2 }
    where
      other : {v : ℕ} → v ≡ N.origin → T (not (eqb v N.origin)) → ⊥
      other {v} z t = rw (eq-eqb v N.origin z) at t

  module _ (ready : Ready N es) where
    -- ---- where they find nothing, there is nothing in any slot

    fits : overfull N es ≡ false → (e s : ℕ) → logged es e s ≤ (link N e).capacity
    fits none = overfull_all N es (own es) ready none

    balances : oversent N es ≡ false → (v : ℕ) → v < N.places → v ≢ N.origin → (k : ℕ) → left N (logged es) v k ≤ arrived N (logged es) v k
    unfolding oversent
    balances none v p q = oversends_all N es (own es) ready v (rw (ne_eqb v N.origin q) at (some_no _ N.places none v p))

    -- ---- the findings

    finding_by : (a b : Bool) → overfull N es ≡ a → oversent N es ≡ b
        → ((finding N es ≡ 0) ↔ Keeps N (logged es)) × ((finding N es ≡ 1) ↔ Overfull N (logged es))
        × ((finding N es ≡ 2) ↔ (((e s : ℕ) → e < count N → logged es e s ≤ (link N e).capacity) × Oversent N (logged es)))
    finding_by true b x y =
        let is = finding_one N es x in
        let o = overfull_is x in (
          (λ z. absurd (omega arith), λ k. absurd (omega (arith, o.over, k.within o.at_link o.at_slot o.is_link))),
          (λ z. o, λ z. is),
          (λ z. absurd (omega arith), λ k. absurd (omega (arith, o.over, k.0 o.at_link o.at_slot o.is_link))),
        )
    finding_by false true x y =
        let is = finding_two N es x y in
        let o = oversent_is y in (
          (λ z. absurd (omega arith), λ k. absurd (omega (arith, o.over, k.conserved o.at_place o.at_slot o.is_place o.no_origin))),
          (λ z. absurd (omega arith), λ k. absurd (omega (arith, k.over, fits x k.at_link k.at_slot))),
          (λ z. (λ e s p. fits x e s, o), λ z. is),
        )
    finding_by false false x y =
        let is = finding_zero N es x y in (
          (λ z. record { within = λ e s p. fits x e s; conserved = λ v s p q. balances y v p q (suc s) }, λ z. is),
          (λ z. absurd (omega arith), λ k. absurd (omega (arith, k.over, fits x k.at_link k.at_slot))),
          (λ z. absurd (omega arith), λ k. absurd (omega (arith, k.1.over, balances y k.1.at_place k.1.is_place k.1.no_origin (suc k.1.at_slot)))),
        )

    -- "0 exactly when .."
    pub finding_0 : (finding N es ≡ 0) ↔ Keeps N (logged es)
    finding_0 = (finding_by (overfull N es) (oversent N es) refl refl).0

    -- "1 for capacity", which comes first
    pub finding_1 : (finding N es ≡ 1) ↔ Overfull N (logged es)
    finding_1 = (finding_by (overfull N es) (oversent N es) refl refl).1

    -- "2 for sending too much"
    pub finding_2 : (finding N es ≡ 2) ↔ (((e s : ℕ) → e < count N → logged es e s ≤ (link N e).capacity) × Oversent N (logged es))
    finding_2 = (finding_by (overfull N es) (oversent N es) refl refl).2

    -- ---- the figure

    -- arrivals less departures at the archive up to the last slot logged, and never negative
    pub figure_0 : Connects N → finding N es ≡ 0
        → figure N es + left N (logged es) N.destination (counting (suc (last_slot es)))
        ≡ arrived N (logged es) N.destination (counting (suc (last_slot es)))
    unfolding delivered
    figure_0 connects e =
        let k : ℕ = counting (suc (last_slot es)) in
        omega (arith, figure_zero N es e, before_any (finding_0.0 e) N.destination connects.destination_in connects.apart k)
      where
        before_any : Keeps N (logged es) → (v : ℕ) → v < N.places → v ≢ N.origin → (k : ℕ) → left N (logged es) v k ≤ arrived N (logged es) v k
        before_any keeps v p q zero = rw gather_zero zero-le
        before_any keeps v p q (suc s) = keeps.conserved v s p q

  -- "under 1 or 2 the figure is 0"
  pub figure_none : finding N es ≢ 0 → figure N es ≡ 0
  unfolding figure
  figure_none q = rw (ne_eqb (finding N es) 0 q)

-- "an empty log gives 0 and the figure 0"
pub empty_log : (N : Network) → (finding N [] ≡ 0) × (figure N [] ≡ 0)
unfolding logged delivered
empty_log N =
    let ready : Ready N [] = record { known = λ i p. absurd (omega arith); ordered = λ i j p q. absurd (omega arith) } in
    let none : (e s : ℕ) → logged [] e s ≡ 0 = λ e s. refl in
    let kept : finding N [] ≡ 0 =
    (finding_0 N [] ready).1 (record {
      within = λ e s p. omega (arith, none e s);
      conserved = λ v s p q. omega (arith, left_eq N (logged []) (λ e t. 0) v (suc s) none, left_none N v (suc s));
    }) in
    let k : ℕ = counting (suc (last_slot [])) in
    (kept, omega (arith, figure_zero N [] kept, arrived_eq N (logged []) (λ e t. 0) N.destination k none, arrived_none N N.destination k))
