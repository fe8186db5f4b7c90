-- One turn of the quickest flow's search. By strong duality the level times the value is the bound plus the cost, so a bound below the
-- amount says that the level is too short, and the least horizon that is not is a quotient. At the longest horizon no bound is below
-- the amount, since a route exists: so the search never runs into it. Assumes nothing.
use mathlib.Core.Path.{◌≡◌, refl, sym, ap, subst⁻¹, ◌∙◌}
use mathlib.Core.List.{List}
use Prim.Native.Nat.{ℕ, ◌+◌, ◌-◌, ◌*◌, ◌/◌, ◌≤◌, ◌<◌, min}
use native.Mathlib.Nat.{mul-zero, mul-le-mul}
use native.Mathlib.Omega.{arith}
use native.Mathlib.Decide.{dec_le, dec_lt}
use Rattle.limits.specs.Limits.{most_links, most_capacity, most_transit, most_cut_number}
use Rattle.flows.specs.Network.{Network}
use Rattle.flows.specs.Cut.{bound}
use Rattle.statics.specs.Static.{cost}
use Rattle.statics.proofs.PrimalDual.{state_duality}
use Rattle.statics.proofs.Sizes.{limit_bound, value_limit, cost_limit}
use Rattle.residual.specs.declared.Tree.{Tree}
use Rattle.residual.specs.Tree.{Searched}
use Rattle.states.specs.declared.State.{State}
use Rattle.states.specs.State.{Sound}
use Rattle.states.specs.Steps.{level, zero_state, raised_by, Raisable, Augmentable, Augmented, Steppable}
use Rattle.states.proofs.Start.{zero_sound}
use Rattle.states.proofs.Raised.{raised_level, raised_sound}
use Rattle.states.proofs.Steps as step
use Rattle.quickest.specs.Quickest.{FirstSearched, IsQuickest, Plannable, TooShort}
use Rattle.quickest.proofs.Ceiling.{too_short, enough, not_below, not_above}

-- as far as potentials can be raised by a search
abbrev pub room : Network → State → Tree → ℕ
room N s t = min t.reach (most_cut_number - level N s)

-- a turn after its search: k is the cost of the state's flow
pub record Turnable (N : Network) (amount : ℕ) (s : State) (t : Tree) (k : ℕ) : Type 0 where
  pub plannable : Plannable N amount
  pub short : TooShort N amount s
  pub searched : Searched N s.flow s.potential t
  pub cost_is : k ≡ cost N s.flow

module _ {N : Network} {amount : ℕ} (plannable : Plannable N amount) where
  duality : (s : State) → Sound N s → level N s * s.value ≡ bound N s.potential + cost N s.flow
  duality s p = state_duality plannable.well_formed.connects p.primal_dual

  -- at the longest horizon no bound is below the amount
  longest_bounds : (s : State) → Sound N s → most_cut_number ≤ level N s → amount ≤ bound N s.potential
  longest_bounds s p h =
      let r = plannable.route in
      limit_bound plannable.well_formed plannable.links r.chain r.simple s.potential amount r.opens plannable.most
      (omega (arith, p.potentials, plannable.well_formed.places_most))
      p.primal_dual.potentials
      h

  -- the start: no flow, and a cut for horizon 0
  zero_cost : cost N zero_state.flow + bound N zero_state.potential ≡ 0
  unfolding zero_state
  zero_cost = omega (arith, duality zero_state (zero_sound N), mul-zero (level N zero_state))

  zero_turnable : {t : Tree} → FirstSearched N t → Turnable N amount zero_state t 0
  zero_turnable searched =
      record {
        plannable = plannable;
        short = record { sound = zero_sound N; bounded = omega (arith, zero_cost, plannable.least) };
        searched = searched;
        cost_is = omega (arith, zero_cost);
      }

  module _ (s : State) (short : TooShort N amount s) where
    pub below_longest : level N s < most_cut_number
    below_longest =
        elim (dec_lt (level N s) most_cut_number) [
          | yes h ↦ h
          | no h ↦ absurd (omega (arith, longest_bounds s short.sound (omega arith), short.bounded))
        ]

    pub steppable : Steppable N s most_cut_number
    steppable =
        record {
          well_formed = plannable.well_formed;
          sound = short.sound;
          below = short.sound.limit;
          limit_most = omega arith;
        }

    -- the code's numbers are small
    pub cost_most : cost N s.flow ≤ most_transit * most_capacity * most_links
    cost_most = cost_limit short.sound.primal_dual.flow plannable.well_formed

    pub product_most : (n : ℕ) → n ≤ most_cut_number → n * s.value ≤ most_cut_number * (most_capacity * most_links)
    product_most n h = mul-le-mul h (value_limit short.sound.primal_dual.flow plannable.well_formed)

    -- one slot more is enough
    pub at_once : amount + cost N s.flow ≤ (level N s + 1) * s.value → IsQuickest N amount (record { slots = level N s + 1; state = s })
    at_once h =
        record {
          sound = short.sound;
          before = refl;
          too_short = short.bounded;
          enough = h;
          limit = omega (arith, below_longest);
        }

-- after a search: `by` as far as potentials can be raised
module _ {N : Network} {amount : ℕ} {s : State} {t : Tree} {k : ℕ} (p : Turnable N amount s t k) {by : ℕ} (by-is : by ≡ room N s t) where
  abbrev dual : Sound N s
  dual = p.short.sound

  below : level N s < most_cut_number
  below = below_longest p.plannable s p.short

  needed_some : 0 < amount + k
  needed_some = omega (arith, p.plannable.least)

  pub by_most : level N s + by ≤ most_cut_number
  by_most = omega (arith, by-is, below)

  -- potentials raised by less than the room are a cut again
  module _ (δ : ℕ) (h : δ ≤ by) where
    near : δ ≤ t.reach
    near = omega (arith, by-is)

    raised_dual : Sound N (raised_by δ s t)
    raised_dual = raised_sound p.plannable.well_formed.connects dual p.searched near (omega (arith, by_most))

    raised_to : level N (raised_by δ s t) ≡ level N s + δ
    raised_to = raised_level p.plannable.well_formed.connects dual p.searched near

    -- and too short, if the value does not bring what is needed
    raised_short : (level N s + δ) * s.value < amount + k → bound N (raised_by δ s t).potential < amount
    unfolding raised_by
    raised_short q =
        omega (
          arith,
          duality p.plannable (raised_by δ s t) raised_dual,
          ap (λ (n : ℕ). n * s.value) raised_to,
          p.cost_is,
        )

  module _ (h : amount + k ≤ (level N s + by) * s.value) where
    -- a flow of no value is never enough
    pub value_some : 0 < s.value
    value_some =
        elim (dec_lt 0 s.value) [
          | yes q ↦ q
          | no q ↦
              let z : s.value ≡ 0 = omega arith in
              absurd (omega (arith, needed_some, ap (λ (v : ℕ). (level N s + by) * v) z, mul-zero (level N s + by)))
        ]

    -- the last horizon in which the flow does not bring what is needed
    abbrev last : ℕ
    last = (amount + k - 1) / s.value

    pub last_from : level N s ≤ last
    last_from =
        not_below value_some needed_some (level N s)
        (omega (arith, duality p.plannable s dual, p.short.bounded, p.cost_is))

    last_to : last < level N s + by
    last_to = not_above value_some needed_some (level N s + by) h

    pub last_most : last + 1 ≤ most_cut_number
    last_most = omega (arith, last_to, by_most)

    raise_near : last - level N s ≤ by
    raise_near = omega (arith, last_to)

    raise_to : level N s + (last - level N s) ≡ last
    raise_to = omega (arith, last_from)

    quickest : IsQuickest N amount (record { slots = last + 1; state = raised_by (last - level N s) s t })
    unfolding raised_by
    quickest =
        record {
          sound = raised_dual (last - level N s) raise_near;
          before = ap (λ (n : ℕ). n + 1) (sym (raised_to (last - level N s) raise_near ∙ raise_to));
          too_short = raised_short (last - level N s) raise_near (rw raise_to (too_short value_some needed_some));
          enough = omega (arith, enough value_some needed_some, p.cost_is);
          limit = last_most;
        }

    -- the search ends here
    pub stops : (r : State) → r ≡ raised_by (last - level N s) s t → IsQuickest N amount (record { slots = last + 1; state = r })
    stops r e = subst⁻¹ (λ (q : State). IsQuickest N amount (record { slots = last + 1; state = q })) e quickest

  -- or it goes on: the destination was found below the longest horizon, and the raised level is still too short
  module _ (h : (level N s + by) * s.value < amount + k) (r : State) (raises : r ≡ raised_by by s t) where
    all : by ≤ by
    all = omega arith

    reach_room : t.reach ≤ most_cut_number - level N s
    reach_room =
        elim (dec_le t.reach (most_cut_number - level N s)) [
          | yes q ↦ q
          | no q ↦
              absurd
              (omega (
                arith,
                raised_short by all h,
                longest_bounds p.plannable (raised_by by s t) (raised_dual by all) (omega (arith, raised_to by all, by-is)),
              ))
        ]

    whole_reach : by ≡ t.reach
    whole_reach = omega (arith, by-is, reach_room)

    raised_value : r.value ≡ s.value
    unfolding raised_by
    raised_value = ap (λ (q : State). q.value) raises

    pub augmentable : Augmentable N r t
    augmentable =
        subst⁻¹ (λ (q : State). Augmentable N q t) (raises ∙ ap (λ (n : ℕ). raised_by n s t) whole_reach)
        (step.augmentable (steppable p.plannable s p.short) p.searched reach_room)

    pub goes_on : (next : State) → Augmented N r next → TooShort N amount next × (s.value < next.value)
    goes_on next a =
        let same : next.potential ≡ (raised_by by s t).potential = a.potentials ∙ ap (λ (q : State). q.potential) raises in (
          record { sound = a.sound; bounded = subst⁻¹ (λ (π : List ℕ). bound N π < amount) same (raised_short by all h) },
          omega (arith, a.grows, raised_value),
        )

-- the first turn: no flow brings nothing, so potentials are raised by the whole reach
module _ {N : Network} {amount : ℕ} (plannable : Plannable N amount) {t : Tree} (searched : FirstSearched N t) {start : State}
    (is : start ≡ zero_state) where
  begins : Turnable N amount start t 0
  begins = rw is (zero_turnable plannable searched)

  too_little : (n : ℕ) → n * start.value < amount + 0
  unfolding zero_state
  too_little n = rw is (omega (arith, mul-zero n, plannable.least))

  first_room : t.reach ≡ room N start t
  first_room = sym (whole_reach begins refl (too_little (level N start + room N start t)) (raised_by (room N start t) start t) refl)

  pub first_raisable : Raisable start t t.reach
  first_raisable =
      step.raisable (steppable plannable start begins.short) begins.searched t.reach (omega (arith, by_most begins first_room))

  module _ (r : State) (raises : r ≡ raised_by t.reach start t) where
    pub first_augmentable : Augmentable N r t
    first_augmentable = augmentable begins first_room (too_little (level N start + t.reach)) r raises

    pub first_short : (next : State) → Augmented N r next → TooShort N amount next
    first_short next a = (goes_on begins first_room (too_little (level N start + t.reach)) r raises next a).0
