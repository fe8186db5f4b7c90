-- A plan while its rows are stored: the rows so far are those of the filling. Assumes nothing.
use mathlib.Core.Path.{◌≡◌, refl, ap, subst, subst⁻¹, ◌∙◌}
use mathlib.Core.List.{List, ◌++◌, append_assoc}
use Prim.Native.Nat.{ℕ, ◌+◌, ◌-◌, ◌*◌, ◌≤◌, ◌<◌, min}
use native.Mathlib.Omega.{arith}
use native.Mathlib.Decide.{dec_lt}
use lib.ListN.{length, get_or, take, set, length-set, length-take}
use lib.Seq.{get_or-take}
use Rattle.limits.specs.Limits.{most_links, most_rows, most_row_links, least_amount, most_amount, least_plan_horizon, longest_plan_horizon, most_cut_number}
use Rattle.flows.specs.Network.{Network, count, WellFormed}
use Rattle.flows.specs.Cut.{number}
use Rattle.flows.specs.Rows as model
use Rattle.flows.specs.Rows.{duration, total}
use Rattle.plans.specs.declared.Row.{Row}
use Rattle.plans.specs.declared.Plan.{Plan}
use Rattle.plans.specs.Held.{row_of, past, rows_below, model_of}
use Rattle.plans.specs.InLimits.{Within, InLimits}
use Rattle.plans.specs.WritablePlan.{Countable}
use Rattle.plans.proofs.Model.{length_rows}
use Rattle.routes.specs.declared.Route.{Route}
use Rattle.routes.specs.Route.{links_of}
use Rattle.statics.specs.Static.{StaticFlow, cost}
use Rattle.portions.specs.declared.Portion.{Portion}
use Rattle.decompose.specs.Fills.{Fills}
use Rattle.portions.specs.Portions.{Apportioned}
use Rattle.turns.specs.Turn.{least_on, lessened}
use Rattle.turn_rows.specs.Rows.{kept, turn_rows}
use Rattle.turn_rows.specs.Stored.{row_along}
use Rattle.turns.proofs.Peeling.{lessened_length}
use Rattle.decompose.proofs.Stored.{stored, stored_all, rows_same, rows_stored}
use Rattle.decompose.proofs.Filling.{Filling, filling_begins, filling_goes_on, filling_decomposes, rows_few, rows_in_limits}
use Rattle.decompose.specs.Found.{Carries}

-- the plan that these rows are for, before it is said how many of them count
abbrev pub plan_of : ℕ → ℕ → List ℕ → List Row → Plan
plan_of a T π rows = record { amount = a; horizon = T; cut = π; count = 0; rows = rows }

-- p is the plan, and n of its rows are stored
pub record Planning (N : Network) (x₀ : List ℕ) (a T : ℕ) (p : Plan) (n : ℕ) (x : List ℕ) (v owed : ℕ) : Type 0 where
  pub filling : Filling N x₀ a T (rows_below p n) x v owed
  pub size : length p.rows ≡ most_rows
  pub counts : (i : ℕ) → i < n → (get_or p.rows i past).count ≤ most_row_links
  pub long : length x ≡ most_links

pub planning_begins : {N : Network} {x : List ℕ} {v : ℕ} (a T : ℕ) (p : Plan) → StaticFlow N x v → a + cost N x ≤ T * v
    → length p.rows ≡ most_rows → length x ≡ most_links → Planning N x a T p 0 x v a
planning_begins a T p flow enough size long =
    record {
      filling = filling_begins a T flow enough;
      size = size;
      counts = λ i l. absurd (omega arith);
      long = long;
    }

-- the rows decide, and neither the horizon nor the cut
pub planning_framed : {N : Network} {x₀ : List ℕ} {a T : ℕ} {rows : List Row} {n : ℕ} {x : List ℕ} {v owed : ℕ} (b h c : ℕ) (π ψ : List ℕ)
    → Planning N x₀ a T (plan_of b h π rows) n x v owed → Planning N x₀ a T (plan_of b c ψ rows) n x v owed
planning_framed {rows = rows} {n = n} b h c π ψ p =
    record {
      filling = rw (rows_same (plan_of b c ψ rows) (plan_of b h π rows) n (λ i l. refl)) p.filling;
      size = p.size;
      counts = p.counts;
      long = p.long;
    }

pub planning_stored : {N : Network} {x₀ : List ℕ} {a T b h : ℕ} {π : List ℕ} {rows now : List Row} {n m : ℕ} {x : List ℕ} {v owed : ℕ}
    → now ≡ rows → m ≡ n → Planning N x₀ a T (plan_of b h π rows) n x v owed → Planning N x₀ a T (plan_of b h π now) m x v owed
planning_stored {N} {x₀} {a} {T} {b} {h} {π} {rows} {now} {n} {m} {x} {v} {owed} e c p =
    subst⁻¹ (λ (rs : List Row). Planning N x₀ a T (plan_of b h π rs) m x v owed) e
    (subst⁻¹ (λ (i : ℕ). Planning N x₀ a T (plan_of b h π rows) i x v owed) c p)

-- ---- a turn

-- what a turn makes of the code's values: the rate, the slots, the two rows, how many of them count, and the blocks that are left
pub record TurnMade (N : Network) (T : ℕ) (x : List ℕ) (v owed : ℕ) (route : Route) (rate slots : ℕ) (s : Portion) (r q : Row) (k m : ℕ) (y : List ℕ)
    : Type 0 where
  pub rate_is : rate ≡ least_on x v (links_of route)
  pub slots_are : slots ≡ T - duration N (links_of route)
  pub apportioned : Apportioned slots rate owed s
  pub row : r ≡ row_along route (duration N (links_of route)) rate 0 s.departures
  pub counts : k ≡ min 1 s.departures
  pub last : q ≡ row_along route (duration N (links_of route)) s.last s.departures 1
  pub last_counts : m ≡ min 1 s.last
  pub after : y ≡ lessened x rate (links_of route)

module _ {N : Network} (wf : WellFormed N) {x₀ : List ℕ} {a T : ℕ} {p : Plan} {n : ℕ} {x : List ℕ} {v owed : ℕ}
    (planning : Planning N x₀ a T p n x v owed) (pos : 0 < owed) (limit : T ≤ most_cut_number) (route : Route)
    (carries : Carries N x (links_of route)) where
  pub planning_few : n < most_links
  planning_few =
      omega (
        arith,
        rows_few wf planning.filling pos limit (omega (arith, planning.long, wf.links_most)) carries,
        length_rows p n,
      )

  module _ {rate slots : ℕ} {s : Portion} {r q : Row} {k m : ℕ} {y : List ℕ} (turn : TurnMade N T x v owed route rate slots s r q k m y) where
    rows_now : rows_below (stored (stored p n r) (n + k) q) (n + k + m)
        ≡ rows_below p n ++ turn_rows N (links_of route) rate s.departures s.last
    rows_now =
        let size : length p.rows ≡ most_rows = planning.size in
        let few = planning_few in
        rw (turn.counts, turn.last_counts)
        (rows_stored (stored p n r) (n + min 1 s.departures) q s.last (rw length-set (omega arith))
        ∙ ap (λ (rs : List model.Row). rs ++ kept s.last (row_of q)) (rows_stored p n r s.departures (omega arith))
        ∙ (rw (append_assoc, turn.row, turn.last) refl))

    counts_now : (i : ℕ) → i < n + k + m → (get_or (set (set p.rows n r) (n + k) q) i past).count ≤ most_row_links
    counts_now i l =
        let size : length p.rows ≡ most_rows = planning.size in
        let few = planning_few in
        let short : (t : Row) → t.count ≡ route.count → t.count ≤ most_row_links = λ t e. omega (arith, route.short) in
        let first : (j : ℕ) → j < n + k → (get_or (set p.rows n r) j past).count ≤ most_row_links =
        λ j h. stored_all p n r (λ t. t.count ≤ most_row_links) (omega arith) (short r (ap (λ (t : Row). t.count) turn.row))
        planning.counts j (omega (arith, turn.counts)) in
        stored_all (stored p n r) (n + k) q (λ t. t.count ≤ most_row_links) (rw length-set (omega (arith, turn.counts)))
        (short q (ap (λ (t : Row). t.count) turn.last)) first i (omega (arith, turn.last_counts))

    rate_apportioned : Apportioned (T - duration N (links_of route)) (least_on x v (links_of route)) owed s
    rate_apportioned =
        subst (λ (c : ℕ). Apportioned (T - duration N (links_of route)) c owed s) turn.rate_is
        (subst (λ (c : ℕ). Apportioned c rate owed s) turn.slots_are turn.apportioned)

    pub planning_goes_on : Planning N x₀ a T (stored (stored p n r) (n + k) q) (n + k + m) y (v - rate) s.owed
    planning_goes_on =
        let long : count N ≤ length x = omega (arith, planning.long, wf.links_most) in
        record {
          filling = rw (rows_now, turn.after, turn.rate_is)
              (filling_goes_on wf planning.filling pos limit long carries rate_apportioned);
          size = length-set (set p.rows n r) (n + k) q ∙ length-set p.rows n r ∙ planning.size;
          counts = counts_now;
          long = rw turn.after (lessened_length x rate (links_of route) ∙ planning.long);
        }

-- ---- the plan

-- a plan with a number of rows
abbrev pub counted : Plan → ℕ → Plan
counted p n = record { amount = p.amount; horizon = p.horizon; cut = p.cut; count = n; rows = p.rows }

pub plan_countable : {N : Network} {x₀ : List ℕ} {a T : ℕ} {p : Plan} {n : ℕ} {x : List ℕ} {v owed : ℕ}
    → Planning N x₀ a T p n x v owed → Countable (counted p n)
plan_countable {p = p} {n = n} planning =
    record { count = omega (arith, length_rows p n, planning.filling.most); links = planning.counts }

module _ {N : Network} {x₀ π : List ℕ} {a slots T : ℕ} {rows : List Row} {n : ℕ} {x : List ℕ} {v owed : ℕ}
    (planning : Planning N x₀ a slots (plan_of a T π rows) n x v owed) (done : owed ≡ 0)
    (amount : Within least_amount most_amount a) (horizon : Within least_plan_horizon longest_plan_horizon T) where
  abbrev p : Plan
  p = plan_of a T π rows

  -- rows that send an amount are some
  some_rows : 0 < n
  some_rows =
      elim (dec_lt 0 n) [
        | yes l ↦ l
        | no g ↦
            let z : n ≡ 0 = omega arith in
            absurd (omega (arith, (filling_decomposes planning.filling done).sums, ap (λ (i : ℕ). total (rows_below p i)) z, amount.low))
      ]

  rows_counted : rows_below (counted p n) n ≡ rows_below p n
  rows_counted = rows_same (counted p n) p n (λ i l. refl)

  module _ (places : ℕ) (is : places ≡ N.places) (long : N.places ≤ length π) (most : (u : ℕ) → number π u ≤ most_cut_number) where
    cut_is : take places p.cut ≡ take N.places π
    cut_is = rw is

    cut_size : length (take N.places π) ≡ N.places
    cut_size = rw length-take (omega arith)

    in_limits : InLimits N.places (count N) (model_of places (counted p n))
    unfolding model_of
    in_limits =
        record {
          amount = amount;
          horizon = horizon;
          one_per_place = rw cut_is cut_size;
          cut = λ u l.
              let q : u < N.places = omega (arith, l, ap length cut_is, cut_size) in
              rw (cut_is, get_or-take N.places π u 0 q) (most u);
          count = record {
            low = omega (arith, length_rows (counted p n) n, some_rows);
            high = omega (arith, length_rows (counted p n) n, length_rows p n, planning.filling.most);
          };
          rows = λ i l. rw rows_counted
              (rows_in_limits N slots (rows_below p n) planning.filling.fit i (omega (arith, l, length_rows (counted p n) n, length_rows p n)));
        }

    pub plan_fills : Fills N x₀ π a slots T (model_of places (counted p n))
    unfolding model_of
    plan_fills =
        record {
          amount = refl;
          horizon = refl;
          cut = cut_is;
          rows = rw rows_counted (filling_decomposes planning.filling done);
          limits = in_limits;
        }
