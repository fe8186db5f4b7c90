-- A link that a chain uses is one of its links; sums along a chain are sums over the links, each counted as often as the chain uses
-- it; what a chain puts into a link is at most its rate for each use; and a chain whose links climb in rank visits no place twice, so
-- uses no link twice and has fewer links than there are places. Assumes nothing.
use mathlib.Core.Path.{◌≡◌, sym, ap, ◌∙◌}
use mathlib.Core.Logic.{◌⊎◌, inl, inr}
use mathlib.Core.List.{List, [], ◌∷◌}
use Prim.Native.Nat.{ℕ, suc, ◌+◌, ◌*◌, ◌≤◌, ◌<◌, zero-le}
use native.Mathlib.Nat.{add-mul, one-mul, zero-mul}
use native.Mathlib.Omega.{arith}
use native.Mathlib.Decide.{ℕ_discrete}
use lib.ListN.{length}
use Rattle.flows.specs.Sums.{sum, only}
use Rattle.flows.specs.Lists.{All}
use Rattle.flows.specs.Network.{Network, link, count, Connects}
use Rattle.flows.specs.Rows.{Leads, IsChain, duration, Use, uses_from, enters, entering}
use Rattle.flows.proofs.Sums.{sum_eq, sum_zero, sum_add, sum_only, sum_most, only_same, only_other, only_most, only_scale}
use Rattle.flows.proofs.Uses.{enters_only, enters_le, window}
pub use Rattle.statics.proofs.Climbs.{Climbs}
use Rattle.statics.specs.Reach.{uses, visits, Simple, Open}

-- one use more, b times
pub uses_cons : (l : ℕ) (es : List ℕ) (e b : ℕ) → uses (l ∷ es) e * b ≡ only l e b + uses es e * b
uses_cons l es e b =
    add-mul (only l e 1) (uses es e) b ∙ ap (λ (t : ℕ). t + uses es e * b) (sym (only_scale l e 1 b) ∙ ap (only l e) (one-mul b))

-- the first link of a list is used, and so are the later ones
pub uses_first : (l : ℕ) (es : List ℕ) → 0 < uses (l ∷ es) l
uses_first l es = omega (arith, only_same l 1)

pub uses_later : (l : ℕ) (es : List ℕ) (e : ℕ) → 0 < uses es e → 0 < uses (l ∷ es) e
uses_later l es e p = omega arith

-- a link that is used is the first or one of the later
pub uses_split : (l : ℕ) (es : List ℕ) (e : ℕ) → 0 < uses (l ∷ es) e → (l ≡ e) ⊎ (0 < uses es e)
uses_split l es e p =
    elim (ℕ_discrete l e) [
      | yes h ↦ inl h
      | no h ↦ inr (omega (arith, only_other l e 1 h))
    ]

-- what holds of all links of a list holds of each that it uses
pub all_used : (P : ℕ → Type 0) (es : List ℕ) → All P es → (e : ℕ) → 0 < uses es e → P e
all_used P [] a e p = absurd (omega arith)
all_used P (l ∷ es) a e p =
    elim (uses_split l es e p) [
      | inl h ↦ rw h at a.0
      | inr h ↦ all_used P es a.1 e h
    ]

-- the links of a chain are links
pub leads_known : (N : Network) (es : List ℕ) (u w : ℕ) → Leads N u w es → All (λ e. e < count N) es
leads_known N [] u w c = tt
leads_known N (e ∷ es) u w c = (c.0, leads_known N es (link N e).end w c.2)

-- and those of an open list have a capacity
pub open_used : (N : Network) (es : List ℕ) → Open N es → (e : ℕ) → 0 < uses es e → 1 ≤ (link N e).capacity
open_used N es o = all_used (λ e. 1 ≤ (link N e).capacity) es o

-- the duration of a chain, link by link
pub duration_sum : (N : Network) (es : List ℕ) (u w : ℕ) → Leads N u w es → duration N es ≡ sum (λ e. uses es e * (link N e).transit) (count N)
duration_sum N [] u w c = sym (sum_eq (count N) (λ e p. zero-mul (link N e).transit) ∙ sum_zero (count N))
duration_sum N (l ∷ es) u w c =
    omega (
      arith,
      duration_sum N es (link N l).end w c.2,
      sum_eq (count N) (λ e p. uses_cons l es e (link N e).transit),
      sum_add (λ e. only l e (link N e).transit) (λ e. uses es e * (link N e).transit) (count N),
      sum_only (λ e. (link N e).transit) l (count N) c.0,
    )

-- what a use puts into a link
enters_within : (u : Use) (e s : ℕ) → enters u e s ≤ only u.link e u.rate
enters_within u e s =
    elim (ℕ_discrete u.link e) [
      | yes h ↦ omega (arith, enters_le u e s, ap (λ (i : ℕ). only i e u.rate) h, only_same e u.rate)
      | no h ↦ omega (arith, enters_only u e s, only_other u.link e (window u s) h)
    ]

-- what a chain puts into a link
pub chain_load : (N : Network) (rate departures : ℕ) (es : List ℕ) (at e s : ℕ)
    → entering (uses_from N rate departures at es) e s ≤ uses es e * rate
chain_load N rate departures [] at e s = zero-le
chain_load N rate departures (l ∷ es) at e s =
    let here : Use = record { link = l; entry = at; rate = rate; departures = departures } in
    omega (
      arith,
      chain_load N rate departures es (at + (link N l).transit) e s,
      enters_within here e s,
      uses_cons l es e rate,
    )

-- ---- chains that visit no place twice

module _ (N : Network) where
  -- each use of a link is a visit to its start
  uses_visits : (es : List ℕ) (w z : ℕ) → Leads N w z es → (e : ℕ) → uses es e ≤ visits N w es (link N e).start
  uses_visits [] w z c e = zero-le
  uses_visits (l ∷ es) w z c e =
      elim (ℕ_discrete l e) [
        | yes h ↦
            let s : w ≡ (link N e).start = sym c.1 ∙ ap (λ (i : ℕ). (link N i).start) h in
            omega (
              arith,
              uses_visits es (link N l).end z c.2 e,
              ap (λ (i : ℕ). only i e 1) h,
              only_same e 1,
              ap (λ (i : ℕ). only i (link N e).start 1) s,
              only_same (link N e).start 1,
            )
        | no h ↦ omega (arith, uses_visits es (link N l).end z c.2 e, only_other l e 1 h)
      ]

  pub simple_once : (es : List ℕ) → IsChain N es → Simple N es → (e : ℕ) → uses es e ≤ 1
  simple_once es c s e = omega (arith, uses_visits es N.origin N.destination c e, s (link N e).start)

  visits_sum : (es : List ℕ) (w z : ℕ) → Connects N → w < N.places → Leads N w z es → sum (visits N w es) N.places ≡ suc (length es)
  visits_sum [] w z connects p c = sum_only (λ u. 1) w N.places p
  visits_sum (e ∷ es) w z connects p c =
      omega (
        arith,
        visits_sum es (link N e).end z connects (connects.end_in e c.0) c.2,
        sum_add (λ u. only w u 1) (visits N (link N e).end es) N.places,
        sum_only (λ u. 1) w N.places p,
      )

  -- so it has fewer links than there are places
  pub simple_length : (es : List ℕ) → Connects N → IsChain N es → Simple N es → length es < N.places
  simple_length es connects c s =
      omega (
        arith,
        visits_sum es N.origin N.destination connects connects.origin_in c,
        sum_most (visits N N.origin es) 1 N.places (λ u p. s u),
        one-mul N.places,
      )

module _ (N : Network) (rank : ℕ → ℕ) where
  climbs_past : (es : List ℕ) (w z : ℕ) → Leads N w z es → Climbs N rank es → (u : ℕ) → rank u < rank w → visits N w es u ≡ 0
  climbs_past [] w z c r u p = only_other w u 1 (λ h. omega (arith, ap rank h))
  climbs_past (e ∷ es) w z c r u p =
      omega (
        arith,
        climbs_past es (link N e).end z c.2 r.1 u (omega (arith, r.0, ap rank c.1)),
        only_other w u 1 (λ h. omega (arith, ap rank h)),
      )

  climbs_once : (es : List ℕ) (w z : ℕ) → Leads N w z es → Climbs N rank es → (u : ℕ) → visits N w es u ≤ 1
  climbs_once [] w z c r u = only_most w u 1
  climbs_once (e ∷ es) w z c r u =
      elim (ℕ_discrete w u) [
        | yes h ↦ omega (
          arith,
          only_most w u 1,
          climbs_past es (link N e).end z c.2 r.1 u (omega (arith, r.0, ap rank c.1, ap rank h)),
        )
        | no h ↦ omega (arith, only_other w u 1 h, climbs_once es (link N e).end z c.2 r.1 u)
      ]

  pub climbs_simple : (es : List ℕ) → IsChain N es → Climbs N rank es → Simple N es
  climbs_simple es c r = climbs_once es N.origin N.destination c r
