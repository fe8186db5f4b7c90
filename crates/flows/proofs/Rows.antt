-- Rows that are chains are a flow: along a chain what arrives over a link leaves over the next in the same slot, so a chain takes
-- nothing from a place but at its start and leaves nothing but at its end, whatever places it visits twice. Assumes nothing.
use mathlib.Core.Path.{◌≡◌, refl, sym, ap}
use mathlib.Core.Logic.{◌≢◌}
use mathlib.Core.List.{List, [], ◌∷◌, ◌++◌}
use Prim.Native.Nat.{ℕ, suc, ◌+◌, ◌-◌, ◌*◌, ◌≤◌, ◌<◌, min}
use native.Mathlib.Nat.{add-zero, add_assoc}
use native.Mathlib.Omega.{arith}
use native.Mathlib.Decide.{dec_lt}
use Rattle.flows.specs.Clock.{counting}
use Rattle.flows.specs.Sums.{only}
use Rattle.flows.specs.Network.{Network, link, count}
use Rattle.flows.specs.Flow.{left, arrived, delivered, IsFlow}
use Rattle.flows.specs.Rows.{Leads, duration, Row, Use, uses_from, uses_of, enters, entering, load, total, Chained, EndedBy, Timely}
use Rattle.flows.proofs.Sums.{only_same, only_other, only_zero, only_add}
use Rattle.flows.proofs.Slots.{left_eq, arrived_eq, left_add, arrived_add, left_none, arrived_none}
use Rattle.flows.proofs.Uses.{enters_pos, left_use, arrived_use, load_none, load_cons}

-- ---- rows, all of them

pub total_append : (rs qs : List Row) → total (rs ++ qs) ≡ total rs + total qs
total_append [] qs = omega arith
total_append (r ∷ rs) qs = omega (arith, total_append rs qs)

-- one row more adds its blocks
pub total_more : (rs : List Row) (r : Row) → total (rs ++ (r ∷ [])) ≡ total rs + r.rate * r.departures
total_more rs r = omega (arith, total_append rs (r ∷ []))

-- what the rows have sent off before slot k, and what they have brought
abbrev pub sent : List Row → ℕ → ℕ
sent [] k = 0
sent (r ∷ rs) k = r.rate * min r.departures (k - r.first) + sent rs k

abbrev pub brought : Network → List Row → ℕ → ℕ
brought N [] k = 0
brought N (r ∷ rs) k = r.rate * min r.departures (k - (r.first + duration N r.links)) + brought N rs k

-- ---- one chain

module _ (N : Network) (rate departures v k : ℕ) where
  -- all that leaves over a chain from u to w also arrives, but for what it starts with at u and ends with at w
  pub chain_law : (es : List ℕ) (u w s : ℕ) → Leads N u w es
      → left N (entering (uses_from N rate departures s es)) v k + only w v (rate * min departures (k - (s + duration N es)))
      ≡ arrived N (entering (uses_from N rate departures s es)) v k + only u v (rate * min departures (k - s))
  chain_law [] u w s c = rw (c, add-zero) (omega (arith, left_none N v k, arrived_none N v k))
  chain_law (a ∷ es) u w s c =
      let τ : ℕ = (link N a).transit in
      let here : Use = record { link = a; entry = s; rate = rate; departures = departures } in
      let rest : ℕ → ℕ → ℕ = entering (uses_from N rate departures (s + τ) es) in
      let late : min departures (k - τ - s) ≡ min departures (k - (s + τ)) = omega arith in
      rw (← c.1, ← add_assoc)
      (omega (
        arith,
        chain_law es (link N a).end w (s + τ) c.2,
        left_add N (enters here) rest v k,
        arrived_add N (enters here) rest v k,
        left_use N here c.0 v k,
        arrived_use N here c.0 v k,
        ap (λ (m : ℕ). only (link N a).end v (rate * m)) late,
      ))

-- a chain whose last block arrives before slot T enters no link too late
module _ (N : Network) (T rate departures e s : ℕ) where
  pub chain_inside : (es : List ℕ) (at : ℕ) → at + departures + duration N es ≤ T → T ≤ s + (link N e).transit
      → entering (uses_from N rate departures at es) e s ≡ 0
  chain_inside [] at p q = refl
  chain_inside (a ∷ es) at p q =
      let here : Use = record { link = a; entry = at; rate = rate; departures = departures } in
      let rest = chain_inside es (at + (link N a).transit) (omega arith) q in
      elim (dec_lt 0 (enters here e s)) [
        | yes h ↦
            let r = enters_pos here e s h in
            absurd (omega (arith, r.1.until, ap (λ (x : ℕ). (link N x).transit) r.0))
        | no h ↦ omega arith
      ]

-- ---- rows that are chains from the origin to the destination

module _ (N : Network) (v k : ℕ) where
  pub rows_law : (rs : List Row) → Chained N rs
      → left N (load N rs) v k + only N.destination v (brought N rs k)
      ≡ arrived N (load N rs) v k + only N.origin v (sent rs k)
  rows_law [] c =
      omega (
        arith,
        left_eq N (load N []) (λ e s. 0) v k (load_none N),
        arrived_eq N (load N []) (λ e s. 0) v k (load_none N),
        left_none N v k,
        arrived_none N v k,
        only_zero N.destination v,
        only_zero N.origin v,
      )
  rows_law (r ∷ rs) c =
      rw (only_add, only_add)
      (omega (
        arith,
        rows_law rs c.1,
        chain_law N r.rate r.departures v k r.links N.origin N.destination r.first c.0,
        left_eq N (load N (r ∷ rs)) (λ e s. entering (uses_of N r) e s + load N rs e s) v k (load_cons N r rs),
        arrived_eq N (load N (r ∷ rs)) (λ e s. entering (uses_of N r) e s + load N rs e s) v k (load_cons N r rs),
        left_add N (entering (uses_of N r)) (load N rs) v k,
        arrived_add N (entering (uses_of N r)) (load N rs) v k,
      ))

  pub rows_conserve : (rs : List Row) → Chained N rs → v ≢ N.origin
      → left N (load N rs) v k ≤ arrived N (load N rs) v k
  rows_conserve rs c p = omega (arith, rows_law rs c, only_other N.origin v (sent rs k) (λ e. p (sym e)))

  -- at a middle place all that has arrived has left
  pub rows_pass : (rs : List Row) → Chained N rs → v ≢ N.origin → v ≢ N.destination
      → left N (load N rs) v k ≡ arrived N (load N rs) v k
  rows_pass rs c p q =
      omega (
        arith,
        rows_law rs c,
        only_other N.origin v (sent rs k) (λ e. p (sym e)),
        only_other N.destination v (brought N rs k) (λ e. q (sym e)),
      )

-- ---- rows that end in time

module _ (N : Network) (k : ℕ) where
  pub rows_inside : (rs : List Row) → EndedBy N k rs → (e s : ℕ) → k ≤ s + (link N e).transit → load N rs e s ≡ 0
  rows_inside [] p e s q = load_none N e s
  rows_inside (r ∷ rs) p e s q =
      omega (
        arith,
        load_cons N r rs e s,
        rows_inside rs p.1 e s q,
        chain_inside N k r.rate r.departures e s r.links r.first p.0 q,
      )

  rows_brought : (rs : List Row) → EndedBy N k rs → brought N rs k ≡ total rs
  rows_brought [] p = refl
  rows_brought (r ∷ rs) p =
      let m : min r.departures (k - (r.first + duration N r.links)) ≡ r.departures = omega (arith, p.0) in
      rw (m, rows_brought rs p.1)

module _ (N : Network) (T : ℕ) where
  module _ (rs : List Row) (chains : Chained N rs) (timely : Timely N T rs) where
    -- rows that are chains, end in time and overload no link are a flow
    pub rows_flow : ((e s : ℕ) → e < count N → load N rs e s ≤ (link N e).capacity) → IsFlow N T (load N rs)
    rows_flow fits =
        record {
          within = fits;
          inside = λ e s p q. rows_inside N (counting T) rs timely e s q;
          conserved = λ v s p q r. rows_conserve N v (suc s) rs chains q;
        }

    -- and deliver their blocks
    pub rows_delivered : N.destination ≢ N.origin → delivered N T (load N rs) ≡ total rs
    unfolding delivered
    rows_delivered apart =
        omega (
          arith,
          rows_law N N.destination (counting T) rs chains,
          only_same N.destination (brought N rs (counting T)),
          only_other N.origin N.destination (sent rs (counting T)) (λ e. apart (sym e)),
          rows_brought N (counting T) rs timely,
        )
