-- What is left of a static flow while rows are taken off it, turn by turn: a static flow that can still bring what is owed, beside rows
-- that load no link with more than what was taken off it; each turn but the last empties a link, so that there are never more rows than
-- links without blocks. Assumes nothing.
use mathlib.Core.Path.{◌≡◌, refl, sym, ap, ◌∙◌}
use mathlib.Core.Logic.{inl, inr}
use mathlib.Core.List.{List, [], ◌∷◌, ◌++◌}
use Prim.Native.Nat.{ℕ, ◌+◌, ◌-◌, ◌*◌, ◌≤◌, ◌<◌, zero-le, min}
use native.Mathlib.Nat.{le_refl, le_trans, mul_comm, mul-zero, one-mul, zero-mul}
use native.Mathlib.Omega.{arith}
use native.Mathlib.Decide.{dec_lt}
use lib.ListN.{length, get_or, length-append}
use Rattle.limits.specs.Limits.{most_capacity, most_rows, most_links, most_cut_number}
use Rattle.flows.specs.Lists.{All}
use Rattle.flows.specs.Network.{Network, count, WellFormed}
use Rattle.flows.specs.Rows.{IsChain, duration, Row, load, total}
use Rattle.flows.proofs.Uses.{load_none, load_append}
use Rattle.flows.proofs.Lists.{all_append, all_at, all_map}
use Rattle.flows.proofs.Rows.{total_append}
use Rattle.plans.specs.InLimits.{past_row, RowInLimits}
use Rattle.statics.specs.Static.{on_link, cost, StaticFlow}
use Rattle.statics.specs.Reach.{uses}
use Rattle.statics.specs.Peel.{Peeled}
use Rattle.statics.proofs.Chains.{uses_first, all_used, leads_known, simple_once}
use Rattle.statics.proofs.Sizes.{simple_duration}
use Rattle.statics.proofs.Peel.{peel_flow, peel_enough}
use Rattle.portions.specs.declared.Portion.{Portion}
use Rattle.decompose.specs.Decomposed.{GoodRow, Decomposed}
use Rattle.portions.specs.Portions.{Apportioned}
use Rattle.turns.specs.Turn.{least_on, lessened, Holds}
use Rattle.turn_rows.specs.Rows.{turn_rows}
use Rattle.decompose.specs.Found.{Carries}
use Rattle.turns.proofs.Bottleneck.{least_most, least_link, least_pos, least_met}
use Rattle.turns.proofs.Peeling.{lessened_taken}
use Rattle.decompose.proofs.Zeros.{zeros, zeros_less, zeros_more}
use Rattle.turn_rows.proofs.Loads.{turn_load, turn_total, turn_length, turn_all}

-- a row that a plan may have
pub record Fit (N : Network) (horizon : ℕ) (r : Row) : Type 0 where
  pub good : GoodRow N horizon r
  pub limits : RowInLimits (count N) r

-- the rows so far, what is left of the static flow, its value, and the blocks owed
pub record Filling (N : Network) (x₀ : List ℕ) (amount horizon : ℕ) (rows : List Row) (x : List ℕ) (v owed : ℕ) : Type 0 where
  pub static : StaticFlow N x v
  pub enough : 0 < owed → owed + cost N x ≤ horizon * v
  pub within : (e s : ℕ) → e < count N → load N rows e s + on_link x e ≤ on_link x₀ e
  pub fit : All (Fit N horizon) rows
  pub sums : total rows + owed ≡ amount
  pub most : length rows ≤ most_rows
  pub few : 0 < owed → length rows ≤ zeros x (count N)

-- ---- the first turn

pub filling_begins : {N : Network} {x : List ℕ} {v : ℕ} (amount horizon : ℕ) → StaticFlow N x v → amount + cost N x ≤ horizon * v
    → Filling N x amount horizon [] x v amount
filling_begins {N} {x} {v} amount horizon flow enough =
    record {
      static = flow;
      enough = λ p. enough;
      within = λ e s p. omega (arith, load_none N e s);
      fit = tt;
      sums = omega arith;
      most = zero-le;
      few = λ p. zero-le;
    }

-- ---- a turn

module _ {N : Network} (wf : WellFormed N) {x es : List ℕ} (carries : Carries N x es) where
  pub carries_known : All (λ e. e < count N) es
  carries_known = leads_known N es N.origin N.destination carries.chain

  -- the origin and the destination differ, so there is a link
  pub carries_some : 0 < length es
  carries_some = some es carries.chain
    where
      some : (ls : List ℕ) → IsChain N ls → 0 < length ls
      some [] c = absurd (wf.connects.apart (sym c))
      some (l ∷ ls) c = omega arith

  -- a link that it uses
  pub carries_link : (e : ℕ) × (e < count N) × (0 < uses es e)
  carries_link = go es carries.chain carries_some
    where
      go : (ls : List ℕ) → IsChain N ls → 0 < length ls → (e : ℕ) × (e < count N) × (0 < uses ls e)
      go [] c p = absurd (omega arith)
      go (l ∷ ls) c p = (l, c.0, uses_first l ls)

  -- the bottleneck
  module _ (v : ℕ) (pos : 0 < v) where
    pub rate_pos : 0 < least_on x v es
    rate_pos = least_pos x v es pos carries.has

    -- the bottleneck can be taken off
    pub rate_holds : Holds x (least_on x v es) es
    rate_holds e =
        elim (dec_lt 0 (uses es e)) [
          | yes p ↦
              let q : uses es e ≡ 1 = omega (arith, simple_once N es carries.chain carries.simple e) in
              rw (q, one-mul) (least_link x v es e p)
          | no p ↦ let q : uses es e ≡ 0 = omega arith in rw (q, zero-mul) zero-le
        ]

    pub rate_peels : count N ≤ length x → Peeled N x es (least_on x v es) (lessened x (least_on x v es) es)
    rate_peels long =
        record {
          chain = carries.chain;
          taken = λ e p. lessened_taken x (least_on x v es) es (known_up es carries_known) rate_holds e;
        }
      where
        known_up : (ls : List ℕ) → All (λ e. e < count N) ls → All (λ e. e < length x) ls
        known_up ls a = all_map (λ e. e < count N) (λ e. e < length x) ls (λ e p. omega arith) a

module _ {N : Network} (wf : WellFormed N) {x₀ : List ℕ} {amount horizon : ℕ} {rows : List Row} {x : List ℕ} {v owed : ℕ}
    (filling : Filling N x₀ amount horizon rows x v owed) where
  -- while blocks are owed the flow has a value
  pub value_pos : 0 < owed → 0 < v
  value_pos p =
      elim (dec_lt 0 v) [
        | yes q ↦ q
        | no q ↦
            let z : v ≡ 0 = omega arith in
            absurd (omega (arith, filling.enough p, ap (λ (t : ℕ). horizon * t) z ∙ mul-zero horizon))
      ]

  module _ (pos : 0 < owed) (limit : horizon ≤ most_cut_number) (long : count N ≤ length x) {es : List ℕ} (carries : Carries N x es) where
    -- there is room for two rows more
    pub rows_few : length rows < most_links
    rows_few =
        let l = carries_link wf carries in
        omega (arith, filling.few pos, zeros_less x l.0 (count N) l.1 (carries.has l.0 l.2), wf.links_most)

    pub rate_most : least_on x v es ≤ most_capacity
    rate_most =
        let l = carries_link wf carries in
        le_trans (least_link x v es l.0 l.2) (le_trans (filling.static.within l.0 l.1) (wf.capacity_most l.0 l.1))

    fit_row : (rate first departures : ℕ) → 0 < rate → rate ≤ least_on x v es → 0 < departures → first + departures + duration N es ≤ horizon
        → Fit N horizon (record { links = es; length = duration N es; rate = rate; first = first; departures = departures })
    fit_row rate first departures some most sent in_time =
        record {
          good = record { chain = carries.chain; measured = refl; simple = carries.simple; in_time = in_time };
          limits = record {
            count = record { low = carries_some wf carries; high = carries.short };
            numbers = all_at (λ e. e < count N) es (carries_known wf carries) 0;
            long = omega (arith, simple_duration wf es carries.chain carries.simple);
            rate = record { low = some; high = le_trans most rate_most };
            first = omega arith;
            departures = record { low = sent; high = omega arith };
          };
        }

    module _ {s : Portion} (apportioned : Apportioned (horizon - duration N es) (least_on x v es) owed s) where
      peeled : Peeled N x es (least_on x v es) (lessened x (least_on x v es) es)
      peeled = rate_peels wf carries v (value_pos pos) long

      still_enough : 0 < s.owed → s.owed + cost N (lessened x (least_on x v es) es) ≤ horizon * (v - least_on x v es)
      still_enough p =
          omega (
            arith,
            peel_enough peeled horizon v owed (least_most x v es) (filling.enough pos),
            apportioned.sums,
            apportioned.none_last p,
            ap (λ (t : ℕ). least_on x v es * t) (apportioned.slots_used p) ∙ mul_comm (least_on x v es) (horizon - duration N es),
          )

      -- a link is emptied, or nothing is owed any more
      emptied : 0 < s.owed → zeros x (count N) < zeros (lessened x (least_on x v es) es) (count N)
      emptied p =
          elim (least_met x v es) [
            | inl h ↦
                let z : v - least_on x v es ≡ 0 = omega arith in
                absurd (omega (arith, still_enough p, ap (λ (t : ℕ). horizon * t) z ∙ mul-zero horizon))
            | inr h ↦
                let known : h.0 < count N = all_used (λ e. e < count N) es (carries_known wf carries) h.0 h.1 in
                let once : uses es h.0 ≡ 1 = omega (arith, h.1, simple_once N es carries.chain carries.simple h.0) in
                zeros_more x (lessened x (least_on x v es) es) h.0 (count N) known (carries.has h.0 h.1)
                (omega (
                  arith,
                  peeled.taken h.0 known,
                  ap (λ (t : ℕ). t * least_on x v es) once ∙ one-mul (least_on x v es),
                  h.2,
                ))
                (λ e q. omega (arith, peeled.taken e q))
          ]

      rows_length : length (rows ++ turn_rows N es (least_on x v es) s.departures s.last)
          ≡ length rows + (min 1 s.departures + min 1 s.last)
      rows_length =
          omega (
            arith,
            length-append rows (turn_rows N es (least_on x v es) s.departures s.last),
            turn_length N es (least_on x v es) s.departures s.last,
          )

      turn_fit : All (Fit N horizon) (turn_rows N es (least_on x v es) s.departures s.last)
      turn_fit =
          turn_all N es (least_on x v es) s.departures s.last (Fit N horizon)
          (λ p.
          fit_row (least_on x v es) 0 s.departures (rate_pos wf carries v (value_pos pos)) (le_refl _) p
          (omega (arith, apportioned.in_time)))
          (λ p. fit_row s.last s.departures 1 p apportioned.last_less (omega arith) (omega (arith, apportioned.last_in_time p)))

      pub filling_goes_on : Filling N x₀ amount horizon (rows ++ turn_rows N es (least_on x v es) s.departures s.last)
          (lessened x (least_on x v es) es) (v - least_on x v es) s.owed
      filling_goes_on =
          let new : List Row = turn_rows N es (least_on x v es) s.departures s.last in
          record {
            static = peel_flow peeled (least_most x v es) filling.static;
            enough = still_enough;
            within = λ e t p. omega (
              arith,
              filling.within e t p,
              load_append N rows new e t,
              turn_load N es (least_on x v es) s.departures s.last apportioned.last_less e t,
              peeled.taken e p,
            );
            fit = all_append (Fit N horizon) rows new filling.fit turn_fit;
            sums = omega (
              arith,
              filling.sums,
              total_append rows new,
              turn_total N es (least_on x v es) s.departures s.last,
              apportioned.sums,
            );
            most = omega (arith, rows_length, rows_few);
            few = λ p. omega (arith, rows_length, filling.few pos, emptied p, apportioned.none_last p);
          }

-- ---- the last turn

pub rows_in_limits : (N : Network) (horizon : ℕ) (rows : List Row) → All (Fit N horizon) rows
    → (i : ℕ) → i < length rows → RowInLimits (count N) (get_or rows i past_row)
rows_in_limits N horizon rows a i p = (all_at (Fit N horizon) rows a past_row i p).limits

module _ {N : Network} {x₀ : List ℕ} {amount horizon : ℕ} {rows : List Row} {x : List ℕ} {v owed : ℕ}
    (filling : Filling N x₀ amount horizon rows x v owed) (done : owed ≡ 0) where
  pub filling_decomposes : Decomposed N x₀ amount horizon rows
  filling_decomposes =
      record {
        good = all_map (Fit N horizon) (GoodRow N horizon) rows (λ r fit. fit.good) filling.fit;
        within = λ e s p. omega (arith, filling.within e s p);
        sums = omega (arith, filling.sums);
      }
