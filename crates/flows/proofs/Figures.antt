-- The 16 figures: a computed test of an entry's rows and cut proves what the entry states, since a flow and a cut prove each other
-- best; and the test passes at every entry of the table. Assumes nothing.
use mathlib.Core.Path.{◌≡◌}
use mathlib.Core.List.{List, [], ◌∷◌}
use mathlib.Core.Bool.{Bool, true, false, not, ◌&&◌}
use Prim.Native.Nat.{ℕ}
use lib.ListN.{length}
use lib.Dec.{T, T_not, ltb, eqb, ltb→lt, eqb→eq, eqb_refl}
use Rattle.flows.specs.Clock.{counting}
use Rattle.flows.specs.Lists.{All}
use Rattle.flows.specs.Network.{Network, link, count, Connects}
use Rattle.flows.specs.Flow.{Delivers}
use Rattle.flows.specs.Cut.{slack, IsCut, bound}
use Rattle.flows.specs.Rows.{Row, enters, load}
use Rattle.flows.specs.Plan.{unchained, mismeasured, overloaded, late, missummed, miscut, unproven, verdict}
use Rattle.flows.specs.Figures.{Claim, most_by, least_for, bound_for, Figure, plan_of, Says, Stated, table}
use Rattle.flows.proofs.Sums.{and_split, every, every_at, test_false}
use Rattle.flows.proofs.Holding.{unheld_delivers, rows_deliver}
use Rattle.flows.proofs.Verdict.{unchained_no, overloaded_no, late_no, missummed_no, miscut_no}
use Rattle.flows.proofs.Least.{most_by_cut, verdict_least}

-- ---- the tests, and what each proves

unfoldable connects_test : Network → Bool
connects_test N =
    ltb N.origin N.places
    && (ltb N.destination N.places
    && (not (eqb N.destination N.origin)
    && (every (λ e. ltb (link N e).start N.places) (count N) && every (λ e. ltb (link N e).end N.places) (count N))))

connects_test_lem : (N : Network) → T (connects_test N) → Connects N
unfolding connects_test
connects_test_lem N t =
    let a = and_split (ltb N.origin N.places) _ t in
    let b = and_split (ltb N.destination N.places) _ a.1 in
    let c = and_split (not (eqb N.destination N.origin)) _ b.1 in
    let starts : Bool = every (λ e. ltb (link N e).start N.places) (count N) in
    let ends : Bool = every (λ e. ltb (link N e).end N.places) (count N) in
    let d = and_split starts ends c.1 in
    record {
      origin_in = ltb→lt _ _ a.0;
      destination_in = ltb→lt _ _ b.0;
      apart = λ e. T_not (eqb N.destination N.origin) c.0 (rw e (eqb_refl N.origin));
      start_in = λ e p. ltb→lt _ _ (every_at (λ e. ltb (link N e).start N.places) (count N) d.0 e p);
      end_in = λ e p. ltb→lt _ _ (every_at (λ e. ltb (link N e).end N.places) (count N) d.1 e p);
    }

-- a test that does not find its fault
no_fault : (b : Bool) → T (not b) → b ≡ false
no_fault b t = test_false b (T_not b t)

-- the rows, each as long as it says, deliver the amount with horizon H
unfoldable rows_test : Network → ℕ → ℕ → List Row → Bool
rows_test N H amount rs =
    not (unchained N rs) && (not (mismeasured N rs) && (not (overloaded N rs) && (not (late N H rs) && not (missummed amount rs))))

rows_test_lem : (N : Network) (H amount : ℕ) (rs : List Row) → Connects N → T (rows_test N H amount rs) → Delivers N H amount
unfolding rows_test
rows_test_lem N H amount rs connects t =
    let a = and_split (not (unchained N rs)) _ t in
    let m = and_split (not (mismeasured N rs)) _ a.1 in
    let b = and_split (not (overloaded N rs)) _ m.1 in
    let c = and_split (not (late N H rs)) (not (missummed amount rs)) b.1 in
    let chained = (unchained_no N rs).0 (no_fault (unchained N rs) a.0) in
    let fits = (overloaded_no N rs).0 (no_fault (overloaded N rs) b.0) in
    let timely = (late_no N H rs).0 (no_fault (late N H rs) c.0) in
    let sums = (missummed_no N amount rs).0 (no_fault (missummed amount rs) c.1) in
    rw sums at (unheld_delivers (rows_deliver rs connects chained timely fits))

-- the numbers are a cut for H
unfoldable cut_test : Network → ℕ → List ℕ → Bool
cut_test N H π = eqb (length π) N.places && not (miscut N H π)

cut_test_lem : (N : Network) (H : ℕ) (π : List ℕ) → T (cut_test N H π) → IsCut N H π
unfolding cut_test
cut_test_lem N H π t =
    let a = and_split (eqb (length π) N.places) (not (miscut N H π)) t in
    (miscut_no N H π (eqb→eq _ _ a.0)).0 (no_fault (miscut N H π) a.1)

-- ---- from the test to the statement

unfoldable claim_test : Network → Claim → ℕ → List Row → List ℕ → Bool
claim_test N (most_by H) figure rs π = rows_test N H figure rs && (cut_test N H π && eqb (bound N π) figure)
claim_test N (least_for amount) figure rs π = eqb (length π) N.places && eqb (verdict N (plan_of amount figure rs π)) 0
claim_test N (bound_for H) figure rs π = cut_test N H π && eqb (bound N π) figure

claim_test_lem : (N : Network) (c : Claim) (figure : ℕ) (rs : List Row) (π : List ℕ)
    → Connects N → T (claim_test N c figure rs π) → Says N c figure rs π
unfolding claim_test
claim_test_lem N (most_by H) figure rs π connects t =
    let a = and_split (rows_test N H figure rs) _ t in
    let b = and_split (cut_test N H π) (eqb (bound N π) figure) a.1 in
    most_by_cut connects (rows_test_lem N H figure rs connects a.0) (cut_test_lem N H π b.0) (eqb→eq _ _ b.1)
claim_test_lem N (least_for amount) figure rs π connects t =
    let a = and_split (eqb (length π) N.places) (eqb (verdict N (plan_of amount figure rs π)) 0) t in
    let passes = eqb→eq _ _ a.1 in
    (verdict_least (plan_of amount figure rs π) connects (eqb→eq _ _ a.0) passes, passes)
claim_test_lem N (bound_for H) figure rs π connects t =
    let a = and_split (cut_test N H π) (eqb (bound N π) figure) t in
    (cut_test_lem N H π a.0, eqb→eq _ _ a.1)

unfoldable table_test : List Figure → Bool
table_test [] = true
table_test (g ∷ gs) = (connects_test g.network && claim_test g.network g.claim g.figure g.rows g.cut) && table_test gs

table_test_lem : (gs : List Figure) → T (table_test gs) → All Stated gs
unfolding table_test
table_test_lem [] t = tt
table_test_lem (g ∷ gs) t =
    let claimed = claim_test g.network g.claim g.figure g.rows g.cut in
    let a = and_split (connects_test g.network && claimed) (table_test gs) t in
    let b = and_split (connects_test g.network) claimed a.0 in
    let connects = connects_test_lem g.network b.0 in
    (claim_test_lem g.network g.claim g.figure g.rows g.cut connects b.1, table_test_lem gs a.1)

-- "proved together, as one table and one assertion about the definitions"
pub figures : All Stated table
unfolding counting table_test connects_test claim_test rows_test cut_test link slack bound enters load unchained mismeasured overloaded late missummed miscut unproven verdict
figures = table_test_lem table tt
