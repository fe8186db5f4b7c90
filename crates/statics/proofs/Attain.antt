-- A static flow, repeated in every slot, is attained over time by a flow that holds nothing: of its chains, one block in each slot for
-- as long as it arrives in time, and of a chain that lasts longer than the horizon nothing. Assumes nothing.
use mathlib.Core.Path.{◌≡◌, sym, ap, ◌∙◌}
use mathlib.Core.List.{List, [], ◌∷◌}
use Prim.Native.Nat.{ℕ, ◌+◌, ◌-◌, ◌*◌, ◌≤◌, ◌<◌}
use native.Mathlib.Nat.{add-mul, mul_comm, mul-le-mul_left, mul-one, mul-suc, mul-zero, one-mul, zero-mul}
use native.Mathlib.Omega.{arith}
use native.Mathlib.Decide.{dec_le}
use lib.ListN.{length}
use Rattle.flows.specs.Lists.{All}
use Rattle.flows.specs.Clock.{counting}
use Rattle.flows.specs.Sums.{sum}
use Rattle.flows.specs.Network.{Network, link, count, Connects}
use Rattle.flows.specs.Holding.{DeliversUnheld}
use Rattle.flows.specs.Rows.{IsChain, duration, Row, load, total, Chained, Timely}
use Rattle.flows.proofs.Sums.{sum_eq, sum_le, sum_zero, sum_add}
use Rattle.flows.proofs.Uses.{load_none, load_cons}
use Rattle.flows.proofs.Holding.{rows_deliver}
use Rattle.statics.specs.Static.{on_link, cost, StaticFlow}
use Rattle.statics.specs.Reach.{uses}
use Rattle.statics.proofs.Chains.{duration_sum, chain_load}
use Rattle.statics.proofs.UnitChains.{uses_all, unit_chains}

abbrev durations : Network → List (List ℕ) → ℕ
durations N [] = 0
durations N (c ∷ cs) = duration N c + durations N cs

durations_sum : (N : Network) (cs : List (List ℕ)) → All (IsChain N) cs → durations N cs ≡ sum (λ e. uses_all cs e * (link N e).transit) (count N)
durations_sum N [] a = sym (sum_eq (count N) (λ e p. zero-mul (link N e).transit) ∙ sum_zero (count N))
durations_sum N (c ∷ cs) a =
    omega (
      arith,
      durations_sum N cs a.1,
      duration_sum N c N.origin N.destination a.0,
      sum_eq (count N) (λ e p. add-mul (uses c e) (uses_all cs e) (link N e).transit),
      sum_add (λ e. uses c e * (link N e).transit) (λ e. uses_all cs e * (link N e).transit) (count N),
    )

-- one block in each slot over each of the chains, for as long as it arrives in time
record Repeated (N : Network) (H : ℕ) (cs : List (List ℕ)) : Type 0 where
  rows : List Row
  chained : Chained N rows
  timely : Timely N H rows
  loads : (e s : ℕ) → load N rows e s ≤ uses_all cs e
  brings : counting H * length cs ≤ total rows + durations N cs

repeat : (N : Network) (H : ℕ) (cs : List (List ℕ)) → All (IsChain N) cs → Repeated N H cs
repeat N H [] a =
    record { rows = []; chained = tt; timely = tt; loads = λ e s. omega (arith, load_none N e s); brings = rw mul-zero (omega arith) }
repeat N H (c ∷ cs) a =
    let r = repeat N H cs a.1 in
    elim (dec_le (duration N c) (counting H)) [
      | yes p ↦
          let row : Row = record { links = c; length = duration N c; rate = 1; first = 0; departures = counting H - duration N c } in
          record {
            rows = row ∷ r.rows;
            chained = (a.0, r.chained);
            timely = (omega arith, r.timely);
            loads = λ e s. omega (
              arith,
              load_cons N row r.rows e s,
              r.loads e s,
              chain_load N 1 (counting H - duration N c) c 0 e s,
              mul-one (uses c e),
            );
            brings = rw (mul-suc, one-mul) (omega (arith, r.brings));
          }
      | no p ↦ record {
        rows = r.rows;
        chained = r.chained;
        timely = r.timely;
        loads = λ e s. omega (arith, r.loads e s);
        brings = rw mul-suc (omega (arith, r.brings));
      }
    ]

pub attain : {N : Network} {x : List ℕ} {v : ℕ} → Connects N → StaticFlow N x v → (H : ℕ) → DeliversUnheld N H (counting H * v - cost N x)
unfolding cost
attain {N} {x} {v} connects flow H =
    let w = unit_chains N (on_link x) v flow.balanced in
    let r = repeat N H w.chains w.lead in
    let d = rows_deliver r.rows connects r.chained r.timely
    (λ e s p. omega (arith, r.loads e s, w.within e, flow.within e p)) in
    record {
      entries = d.entries;
      unheld = d.unheld;
      enough = omega (
        arith,
        d.enough,
        r.brings,
        ap (λ (n : ℕ). counting H * n) w.many,
        durations_sum N w.chains w.lead,
        sum_le (count N) (λ e p. mul-le-mul_left (link N e).transit (w.within e)),
        sum_eq (count N) (λ e p. mul_comm (uses_all w.chains e) (link N e).transit),
      );
    }
