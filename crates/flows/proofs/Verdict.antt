-- Each test of the verdict says what it is named for, and the verdict is 0 where each of them fails: a test is taken apart as it is
-- built. Assumes nothing.
use mathlib.Core.Path.{◌≡◌, refl, ap}
use mathlib.Core.Logic.Iff
use mathlib.Core.Logic.{◌↔◌}
use mathlib.Core.Bool.{Bool, true, false, cond, not}
use mathlib.Core.List.{List, [], ◌∷◌}
use Prim.Native.Nat.{ℕ, ◌-◌, ◌≤◌, ◌<◌}
use native.Mathlib.Omega.{arith}
use lib.ListN.{length}
use lib.Dec.{T, ltb, eqb, ltb→lt, lt→ltb, eqb→eq}
use borrow.Author.Tests.{ltb-false, leb-false, eqb-true, not-false, le-ltb, lt-leb, eq-eqb}
use Rattle.flows.specs.Clock.{counting}
use Rattle.flows.specs.Lists.{All}
use Rattle.flows.specs.Sums.{some}
use Rattle.flows.specs.Network.{Network, link, count}
use Rattle.flows.specs.Cut.{number, IsCut, bound}
use Rattle.flows.specs.Rows.{Leads, IsChain, duration, Row, ends, load, total, Chained, Measured, Timely}
use Rattle.flows.specs.Plan.{Plan, leads, some_row, unchained, mismeasured, overloaded, late, missummed, miscut, unproven, verdict}
use Rattle.flows.proofs.Sums.{and_split, and_join, or_no, no_or, some_no, no_some, test_true, true_test, test_false}
use Rattle.flows.proofs.Overload.{overloaded_is, overloaded_not}

-- `not` finds no fault where the test passes
not_no : (b : Bool) → (not b ≡ false) ↔ (b ≡ true)
not_no b = (not-false b, ap not)

equal_no : (a b : ℕ) → (not (eqb a b) ≡ false) ↔ (a ≡ b)
equal_no a b = (λ p. eqb-true a b ((not_no (eqb a b)).0 p), λ q. (not_no (eqb a b)).1 (eq-eqb a b q))

-- no row has a fault
pub some_row_no : (t : Row → Bool) (P : Row → Type 0) → ((r : Row) → (t r ≡ false) ↔ P r)
    → (rs : List Row) → (some_row t rs ≡ false) ↔ All P rs
some_row_no t P h [] = (λ p. tt, λ a. refl)
some_row_no t P h (r ∷ rs) =
    let rest = some_row_no t P h rs in (
      λ p. let q = or_no (t r) (some_row t rs) p in ((h r).0 q.0, rest.0 q.1),
      λ a. no_or (t r) (some_row t rs) ((h r).1 a.0) (rest.1 a.1),
    )

module _ (N : Network) where
  pub leads_is : (u w : ℕ) (es : List ℕ) → T (leads N u w es) → Leads N u w es
  leads_is u w [] t = eqb→eq u w t
  leads_is u w (e ∷ es) t =
      let a = and_split (ltb e (count N)) _ t in
      let b = and_split (eqb (link N e).start u) (leads N (link N e).end w es) a.1 in
      (ltb→lt _ _ a.0, eqb→eq _ _ b.0, leads_is (link N e).end w es b.1)

  pub leads_of : (u w : ℕ) (es : List ℕ) → Leads N u w es → T (leads N u w es)
  leads_of u w [] c = true_test (eqb u w) (eq-eqb u w c)
  leads_of u w (e ∷ es) c =
      and_join (ltb e (count N)) _ (lt→ltb _ _ c.0)
      (and_join (eqb (link N e).start u) (leads N (link N e).end w es)
      (true_test (eqb (link N e).start u) (eq-eqb _ _ c.1))
      (leads_of (link N e).end w es c.2))

  pub leads_iff : (u w : ℕ) (es : List ℕ) → (leads N u w es ≡ true) ↔ Leads N u w es
  leads_iff u w es = (
    λ p. leads_is u w es (true_test (leads N u w es) p),
    λ c. test_true (leads N u w es) (leads_of u w es c),
  )

  -- 1: every row is a chain
  pub unchained_no : (rs : List Row) → (unchained N rs ≡ false) ↔ Chained N rs
  unfolding unchained
  unchained_no rs =
      some_row_no (λ r. not (leads N N.origin N.destination r.links)) (λ r. IsChain N r.links)
      (λ r. Iff.trans
      (not_no (leads N N.origin N.destination r.links))
      (leads_iff N.origin N.destination r.links))
      rs

  -- 7: every row is as long as it says
  pub mismeasured_no : (rs : List Row) → (mismeasured N rs ≡ false) ↔ Measured N rs
  unfolding mismeasured
  mismeasured_no rs =
      some_row_no (λ r. not (eqb r.length (duration N r.links))) (λ r. r.length ≡ duration N r.links)
      (λ r. equal_no r.length (duration N r.links))
      rs

  -- 2: no link takes in more than its capacity in any slot
  pub overloaded_no : (rs : List Row) → (overloaded N rs ≡ false) ↔ ((e s : ℕ) → e < count N → load N rs e s ≤ (link N e).capacity)
  overloaded_no rs = (
    overloaded_not N rs,
    λ fits. test_false (overloaded N rs) (λ t.
        let o = overloaded_is N rs t in omega (arith, o.over, fits o.at_link o.at_slot o.is_link)),
  )

  -- 3: every row ends by the horizon
  pub late_no : (H : ℕ) (rs : List Row) → (late N H rs ≡ false) ↔ Timely N H rs
  unfolding late
  late_no H rs =
      let k : ℕ = counting H in
      some_row_no (λ r. ltb k (ends N r)) (λ r. ends N r ≤ k) (λ r. (ltb-false k (ends N r), le-ltb k (ends N r))) rs

  -- 4: the rows sum to the amount
  pub missummed_no : (amount : ℕ) (rs : List Row) → (missummed amount rs ≡ false) ↔ (total rs ≡ amount)
  unfolding missummed
  missummed_no amount rs = equal_no (total rs) amount

  -- 5: the cut is one for the horizon
  module _ (H : ℕ) (π : List ℕ) where
    miscut_is : length π ≡ N.places → miscut N H π ≡ false → IsCut N H π
    unfolding miscut
    miscut_is size p =
        let a = or_no (not (eqb (number π N.origin) 0)) _ p in
        let b = or_no (not (eqb (number π N.destination) (counting H))) (some (λ v. ltb (counting H) (number π v)) N.places) a.1 in
        record {
          size = size;
          at_origin = (equal_no (number π N.origin) 0).0 a.0;
          at_destination = (equal_no (number π N.destination) (counting H)).0 b.0;
          at_most = λ v q. ltb-false (counting H) (number π v) (some_no (λ v. ltb (counting H) (number π v)) N.places b.1 v q);
        }

    miscut_of : IsCut N H π → miscut N H π ≡ false
    unfolding miscut
    miscut_of c =
        no_or (not (eqb (number π N.origin) 0)) _ ((equal_no (number π N.origin) 0).1 c.at_origin)
        (no_or (not (eqb (number π N.destination) (counting H))) (some (λ v. ltb (counting H) (number π v)) N.places)
        ((equal_no (number π N.destination) (counting H)).1 c.at_destination)
        (no_some (λ v. ltb (counting H) (number π v)) N.places (λ v q. le-ltb (counting H) (number π v) (c.at_most v q))))

    pub miscut_no : length π ≡ N.places → (miscut N H π ≡ false) ↔ IsCut N H π
    miscut_no size = (miscut_is size, miscut_of)

  -- 6: the bound is below the amount
  pub unproven_no : (amount : ℕ) (π : List ℕ) → (unproven N amount π ≡ false) ↔ (bound N π < amount)
  unfolding unproven
  unproven_no amount π = (leb-false amount (bound N π), lt-leb amount (bound N π))

-- ---- the verdict 0

-- no test finds a fault
pub record Passes (N : Network) (p : Plan) : Type 0 where
  pub chained : unchained N p.rows ≡ false
  pub measured : mismeasured N p.rows ≡ false
  pub fits : overloaded N p.rows ≡ false
  pub timely : late N p.horizon p.rows ≡ false
  pub sums : missummed p.amount p.rows ≡ false
  pub cuts : miscut N (p.horizon - 1) p.cut ≡ false
  pub proves : unproven N p.amount p.cut ≡ false

-- a number other than 0 was not taken
cond_zero : (b : Bool) (k x : ℕ) → 0 < k → cond b k x ≡ 0 → (b ≡ false) × (x ≡ 0)
cond_zero true k x p q = absurd (omega arith)
cond_zero false k x p q = (refl, q)

module _ (N : Network) (p : Plan) where
  passes_is : verdict N p ≡ 0 → Passes N p
  unfolding verdict
  passes_is v =
      let a = cond_zero (unchained N p.rows) 1 _ (omega arith) v in
      let g = cond_zero (mismeasured N p.rows) 7 _ (omega arith) a.1 in
      let b = cond_zero (overloaded N p.rows) 2 _ (omega arith) g.1 in
      let c = cond_zero (late N p.horizon p.rows) 3 _ (omega arith) b.1 in
      let d = cond_zero (missummed p.amount p.rows) 4 _ (omega arith) c.1 in
      let e = cond_zero (miscut N (p.horizon - 1) p.cut) 5 _ (omega arith) d.1 in
      let f = cond_zero (unproven N p.amount p.cut) 6 0 (omega arith) e.1 in
      record { chained = a.0; measured = g.0; fits = b.0; timely = c.0; sums = d.0; cuts = e.0; proves = f.0 }

  passes_of : Passes N p → verdict N p ≡ 0
  unfolding verdict
  passes_of c = rw (c.chained, c.measured, c.fits, c.timely, c.sums, c.cuts, c.proves)

  pub verdict_zero : (verdict N p ≡ 0) ↔ Passes N p
  verdict_zero = (passes_is, passes_of)

  -- "the first that applies": a row that is no chain decides before any length
  pub verdict_one : unchained N p.rows ≡ true → verdict N p ≡ 1
  unfolding verdict
  verdict_one stray = rw stray

  -- "tested directly after 1": of rows that are chains a wrong length decides, whatever else is wrong with the plan
  pub verdict_seven : unchained N p.rows ≡ false → mismeasured N p.rows ≡ true → verdict N p ≡ 7
  unfolding verdict
  verdict_seven chained wrong = rw (chained, wrong)
