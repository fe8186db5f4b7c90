-- Rows that are chains hold nothing: before each of two slots that follow each other all that arrived at a middle place has left it. So a
-- plan that passes holds nothing. Flows that hold nothing are flows, so a least horizon or a most that one of them attains is theirs
-- too. Assumes nothing.
use mathlib.Core.Path.{◌≡◌}
use mathlib.Core.Logic.{◌≢◌}
use mathlib.Core.List.{List}
use Prim.Native.Nat.{ℕ, zero, suc, ◌≤◌, ◌<◌}
use native.Mathlib.Nat.{le_trans}
use native.Mathlib.Omega.{arith}
use lib.ListN.{length}
use Rattle.flows.specs.Network.{Network, link, count, Connects}
use Rattle.flows.specs.Flow.{left, arrived, IsFlow, Delivers, Least, Most}
use Rattle.flows.specs.Holding.{Unheld, DeliversUnheld, LeastUnheld, MostUnheld}
use Rattle.flows.specs.Rows.{Row, load, total, Chained, Timely}
use Rattle.flows.specs.Plan.{Plan, Certified, verdict}
use Rattle.flows.proofs.Slots.{left_suc, arrived_suc}
use Rattle.flows.proofs.Rows.{rows_pass, rows_flow, rows_delivered}
use Rattle.flows.proofs.Exact.{verdict_certifies}
use Rattle.flows.proofs.Nothing.{left_before, arrived_before}

-- ---- rows

-- rows that are chains and a flow: at a middle place what leaves in a slot is what arrives in it
pub chained_unheld : {N : Network} {T : ℕ} (rs : List Row) → Chained N rs → IsFlow N T (load N rs) → Unheld N T (load N rs)
chained_unheld {N} rs chained flow =
    record {
      flow = flow;
      passes = λ v s p q r i. omega (
        arith,
        rows_pass N v s rs chained q r,
        rows_pass N v (suc s) rs chained q r,
        left_suc N (load N rs) v s,
        arrived_suc N (load N rs) v s,
      );
    }

pub certified_unheld : {N : Network} {p : Plan} → Certified N p → Unheld N p.horizon (load N p.rows)
certified_unheld {p = p} c = chained_unheld p.rows c.chained c.flow

pub verdict_unheld : {N : Network} (p : Plan) → Connects N → length p.cut ≡ N.places → verdict N p ≡ 0
    → Unheld N p.horizon (load N p.rows)
verdict_unheld p connects size v = certified_unheld (verdict_certifies connects size v)

-- rows that are chains, end in time and overload no link deliver their blocks, and hold none
pub rows_deliver : {N : Network} {T : ℕ} (rs : List Row) → Connects N → Chained N rs → Timely N T rs
    → ((e s : ℕ) → e < count N → load N rs e s ≤ (link N e).capacity) → DeliversUnheld N T (total rs)
rows_deliver {N} {T} rs connects chained timely fits =
    record {
      entries = load N rs;
      unheld = chained_unheld rs chained (rows_flow N T rs chained timely fits);
      enough = omega (arith, rows_delivered N T rs chained timely connects.apart);
    }

-- ---- flows that hold nothing

pub unheld_delivers : {N : Network} {T amount : ℕ} → DeliversUnheld N T amount → Delivers N T amount
unheld_delivers d = record { entries = d.entries; flow = d.unheld.flow; enough = d.enough }

pub unheld_less : {N : Network} {T amount : ℕ} (less : ℕ) → less ≤ amount → DeliversUnheld N T amount → DeliversUnheld N T less
unheld_less less p d = record { entries = d.entries; unheld = d.unheld; enough = le_trans p d.enough }

-- a least horizon, and a most, that a flow attains that holds nothing
pub attained_least : {N : Network} {amount T : ℕ} → Least N amount T → DeliversUnheld N T amount → LeastUnheld N amount T
attained_least a d = record { attained = d; least = λ H f p u. a.least H f p u.flow }

pub attained_most : {N : Network} {H most : ℕ} → Most N H most → DeliversUnheld N H most → MostUnheld N H most
attained_most a d = record { attained = d; exceeded_by_none = λ f u. a.exceeded_by_none f u.flow }

-- at a middle place all that has arrived before a slot has left
pub unheld_left : {N : Network} {T : ℕ} {f : ℕ → ℕ → ℕ} → Unheld N T f → (v k : ℕ) → v < N.places → v ≢ N.origin → v ≢ N.destination
    → k ≤ T → left N f v k ≡ arrived N f v k
unheld_left {N} {f = f} u v zero p q r i = omega (arith, left_before N f v, arrived_before N f v)
unheld_left {N} {f = f} u v (suc s) p q r i =
    omega (arith, unheld_left u v s p q r (omega arith), u.passes v s p q r (omega arith), left_suc N f v s, arrived_suc N f v s)
