-- The verdict is exact. Where it is 0, the rows are a flow by the theorem on rows; and where rows are a flow none of them is late,
-- since its last block enters the last link of its chain in a slot from which it still arrives. Assumes nothing.
use mathlib.Core.Path.{◌≡◌, refl, sym, ◌∙◌}
use mathlib.Core.Logic.{◌↔◌, ◌≢◌}
use mathlib.Core.List.{List, [], ◌∷◌}
use Prim.Native.Nat.{ℕ, ◌+◌, ◌-◌, ◌≤◌, ◌<◌}
use native.Mathlib.Omega.{arith}
use native.Mathlib.Decide.{dec_le}
use lib.ListN.{length}
use Rattle.flows.specs.Lists.{All}
use Rattle.flows.specs.Clock.{counting}
use Rattle.flows.specs.Network.{Network, link, count, Connects}
use Rattle.flows.specs.Flow.{IsFlow}
use Rattle.flows.specs.Rows.{Leads, duration, Row, Use, uses_from, entering, load, Chained, Timely}
use Rattle.flows.specs.Plan.{Plan, Lawful, Certified, verdict}
use Rattle.flows.proofs.Uses.{enters_in, load_cons}
use Rattle.flows.proofs.Rows.{rows_flow, rows_delivered}
use Rattle.flows.proofs.Verdict.{verdict_zero, unchained_no, mismeasured_no, overloaded_no, late_no, missummed_no, miscut_no, unproven_no}

-- the last entry of a chain: the slot before the one by which it has arrived, less the link's transit
record LastEntry (N : Network) (rate departures at : ℕ) (es : List ℕ) : Type 0 where
  over : ℕ
  slot : ℕ
  is_link : over < count N
  arrives : slot + (link N over).transit + 1 ≡ at + departures + duration N es
  enters_then : 0 < entering (uses_from N rate departures at es) over slot

module _ (N : Network) (rate departures : ℕ) (some-rate : 1 ≤ rate) (some-departure : 1 ≤ departures) where
  last_entry : (a : ℕ) (es : List ℕ) (u w at : ℕ) → Leads N u w (a ∷ es) → LastEntry N rate departures at (a ∷ es)
  last_entry a [] u w at c =
      let here : Use = record { link = a; entry = at; rate = rate; departures = departures } in
      record {
        over = a;
        slot = at + departures - 1;
        is_link = c.0;
        arrives = omega arith;
        enters_then = omega (arith, enters_in here a (at + departures - 1) refl (record { from = omega arith; until = omega arith }));
      }
  last_entry a (b ∷ es) u w at c =
      let r = last_entry b es (link N a).end w (at + (link N a).transit) c.2 in
      record {
        over = r.over;
        slot = r.slot;
        is_link = r.is_link;
        arrives = omega (arith, r.arrives);
        enters_then = omega (arith, r.enters_then);
      }

-- a row whose entries all lie inside the horizon ends by it
module _ (N : Network) (T : ℕ) (f : ℕ → ℕ → ℕ) (apart : N.destination ≢ N.origin) (flow : IsFlow N T f) where
  row_timely : (rate departures at : ℕ) (es : List ℕ) → 1 ≤ rate → 1 ≤ departures → Leads N N.origin N.destination es
      → ((e s : ℕ) → entering (uses_from N rate departures at es) e s ≤ f e s) → at + departures + duration N es ≤ counting T
  row_timely rate departures at [] p q c below = absurd (apart (sym c))
  row_timely rate departures at (a ∷ es) p q c below =
      let r = last_entry N rate departures p q a es N.origin N.destination at c in
      elim (dec_le (counting T) (r.slot + (link N r.over).transit)) [
        | yes h ↦ absurd (omega (arith, flow.inside r.over r.slot r.is_link h, below r.over r.slot, r.enters_then))
        | no h ↦ omega (arith, r.arrives)
      ]

  rows_timely : (rs : List Row) → All (λ r. 1 ≤ r.rate) rs → All (λ r. 1 ≤ r.departures) rs → Chained N rs
      → ((e s : ℕ) → load N rs e s ≤ f e s) → Timely N T rs
  rows_timely [] p q c below = tt
  rows_timely (r ∷ rs) p q c below = (
    row_timely r.rate r.departures r.first r.links p.0 q.0 c.0
        (λ e s. omega (arith, below e s, load_cons N r rs e s)),
    rows_timely rs p.1 q.1 c.1 (λ e s. omega (arith, below e s, load_cons N r rs e s)),
  )

-- a plan with the verdict 0 shows what it is to show; of the record's limits this takes the cut's length alone
pub verdict_certifies : {N : Network} {p : Plan} → Connects N → length p.cut ≡ N.places → verdict N p ≡ 0 → Certified N p
verdict_certifies {N} {p} connects size v =
    let t = (verdict_zero N p).0 v in
    let chained = (unchained_no N p.rows).0 t.chained in
    let timely = (late_no N p.horizon p.rows).0 t.timely in
    record {
      chained = chained;
      measured = (mismeasured_no N p.rows).0 t.measured;
      flow = rows_flow N p.horizon p.rows chained timely ((overloaded_no N p.rows).0 t.fits);
      delivers = rows_delivered N p.horizon p.rows chained timely connects.apart
          ∙ (missummed_no N p.amount p.rows).0 t.sums;
      cuts = (miscut_no N (p.horizon - 1) p.cut size).0 t.cuts;
      proves = (unproven_no N p.amount p.cut).0 t.proves;
    }

-- and a plan within the limits that shows it has the verdict 0
pub certified_verdict : {N : Network} {p : Plan} → Connects N → Lawful N p → Certified N p → verdict N p ≡ 0
certified_verdict {N} {p} connects lawful c =
    let timely = rows_timely N p.horizon (load N p.rows) connects.apart c.flow p.rows
    lawful.rates lawful.departures c.chained (λ e s. omega arith) in
    (verdict_zero N p).1 (record {
      chained = (unchained_no N p.rows).1 c.chained;
      measured = (mismeasured_no N p.rows).1 c.measured;
      fits = (overloaded_no N p.rows).1 c.flow.within;
      timely = (late_no N p.horizon p.rows).1 timely;
      sums = (missummed_no N p.amount p.rows).1
          (sym (rows_delivered N p.horizon p.rows c.chained timely connects.apart) ∙ c.delivers);
      cuts = (miscut_no N (p.horizon - 1) p.cut lawful.cut_size).1 c.cuts;
      proves = (unproven_no N p.amount p.cut).1 c.proves;
    })

pub exact : {N : Network} {p : Plan} → Connects N → Lawful N p → (verdict N p ≡ 0) ↔ Certified N p
exact connects lawful = (verdict_certifies connects lawful.cut_size, certified_verdict connects lawful)
