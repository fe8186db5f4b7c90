-- Where a chain of links with capacity of at least 1 leads to the archive, every amount has a least horizon, and only there: potentials
-- higher than the chain lasts leave slack on it, so the flow that belongs to them is worth a block a slot, and repeated for long enough
-- brings any amount; then of the horizons up to that one the first that suffices is the least. Assumes nothing.
use mathlib.Core.Path.{◌≡◌, ap}
use mathlib.Core.Logic.{◌⊎◌, inl, inr, ◌↔◌}
use mathlib.Core.List.{List, [], ◌∷◌}
use Prim.Native.Nat.{ℕ, zero, suc, ◌+◌, ◌*◌, ◌≤◌, ◌<◌}
use native.Mathlib.Nat.{le_refl, mul-le-mul_left, mul-le-mul_right, mul-one, mul-zero, one-mul}
use native.Mathlib.Omega.{arith}
use native.Mathlib.Decide.{dec_lt, dec_le}
use Rattle.flows.specs.Span.{spanning}
use Rattle.flows.specs.Network.{Network, link, count, Connects}
use Rattle.flows.specs.Flow.{IsFlow, delivered, Delivers, Least}
use Rattle.flows.specs.Cut.{number, counted, slack, bound}
use Rattle.flows.specs.Rows.{Leads, duration}
use Rattle.flows.proofs.Clock.{counting_spanning}
use Rattle.flows.proofs.Sums.{sum_term}
use Rattle.flows.proofs.Cut.{counted_slack}
use Rattle.flows.proofs.Holding.{unheld_delivers}
use Rattle.flows.proofs.Least.{delivers_less}
use Rattle.statics.specs.Static.{cost}
use Rattle.statics.specs.Potentials.{Optimal}
use Rattle.statics.specs.Reach.{Open, Reachable}
use Rattle.statics.proofs.Attain.{attain}
use Rattle.statics.proofs.PrimalDual.{state_duality}
use Rattle.statics.proofs.Reaching.{reachable_or_separated, separated_delivers_none}
use Rattle.statics.proofs.Existence.{optimal}
use Rattle.statics.proofs.Holding.{some_most}

-- ---- a chain is worth a block

-- where the bound is 0 no open link has slack, so potentials grow by no more than a chain lasts
module _ (N : Network) (π : List ℕ) (z : bound N π ≡ 0) where
  no_slack : (e : ℕ) → e < count N → 1 ≤ (link N e).capacity → number π (link N e).end ≤ number π (link N e).start + (link N e).transit
  unfolding bound
  no_slack e p q =
      omega (
        arith,
        sum_term (λ i. (link N i).capacity * counted (slack N π i)) (count N) e p,
        mul-le-mul_right (counted (slack N π e)) q,
        one-mul (counted (slack N π e)),
        counted_slack N π e,
      )

  chain_slack : (es : List ℕ) (u w : ℕ) → Leads N u w es → Open N es → number π w ≤ number π u + duration N es
  chain_slack [] u w c o = omega (arith, ap (number π) c)
  chain_slack (e ∷ es) u w c o =
      omega (arith, chain_slack es (link N e).end w c.2 o.1, no_slack e c.0 o.0, ap (number π) c.1)

-- at a level above what the chain lasts the flow is worth a block
chain_value : {N : Network} → Connects N → (r : Reachable N) (o : Optimal N (suc (duration N r.chain))) → 0 < o.value
chain_value {N} connects r o =
    elim (dec_lt 0 o.value) [
      | yes p ↦ p
      | no p ↦
          let π : List ℕ = o.potentials in
          let none : o.value ≡ 0 = omega arith in
          let dual = state_duality connects o.state in
          let z : bound N π ≡ 0 = omega (arith, ap (λ (n : ℕ). number π N.destination * n) none, mul-zero (number π N.destination)) in
          absurd (omega (
            arith,
            chain_slack N π z r.chain N.origin N.destination r.leads r.opens,
            o.level,
            o.state.potentials.at_origin,
          ))
    ]

-- ---- and so brings any amount

pub record SomeHorizon (N : Network) (amount : ℕ) : Type 0 where
  pub horizon : ℕ
  pub delivers : Delivers N horizon amount

pub record SomeLeast (N : Network) (amount : ℕ) : Type 0 where
  pub horizon : ℕ
  pub is_least : Least N amount horizon

module _ {N : Network} (connects : Connects N) (amount : ℕ) where
  pub reachable_delivers : Reachable N → SomeHorizon N amount
  reachable_delivers r =
      let o = optimal connects (suc (duration N r.chain)) in
      let slots : ℕ = cost N o.blocks + amount in
      let d = unheld_delivers (attain connects o.state.flow (spanning slots)) in
      record {
        horizon = spanning slots;
        delivers = delivers_less amount
            (rw (counting_spanning slots) (omega (arith, mul-le-mul_left slots (chain_value connects r o), mul-one slots)))
            d;
      }

  -- ---- a least horizon

  -- below n some horizon is the least, or none suffices
  least_below : (n : ℕ) → SomeLeast N amount ⊎ ((H : ℕ) (f : ℕ → ℕ → ℕ) → H < n → IsFlow N H f → delivered N H f < amount)
  least_below zero = inr (λ H f p flow. absurd (omega arith))
  least_below (suc n) =
      elim (least_below n) [
        | inl t ↦ inl t
        | inr none ↦
            let s = some_most connects n in
            elim (dec_le amount s.most) [
              | yes q ↦ inl record {
                horizon = n;
                is_least = record { attained = delivers_less amount q (unheld_delivers s.unheld); least = none };
              }
              | no q ↦ inr (λ H f p flow. elim (dec_lt H n) [
                | yes i ↦ none H f i flow
                | no i ↦
                    let e : H ≡ n = omega arith in
                    omega (arith, s.is_most.exceeded_by_none f (rw e at flow), ap (λ (k : ℕ). delivered N k f) e)
              ])
            ]
      ]

  pub reachable_least : Reachable N → SomeLeast N amount
  reachable_least r =
      let d = reachable_delivers r in
      elim (least_below (suc d.horizon)) [
        | inl t ↦ t
        | inr none ↦ absurd (omega (
          arith,
          d.delivers.enough,
          none d.horizon d.delivers.entries (le_refl _) d.delivers.flow,
        ))
      ]

  -- who delivers a block has a chain
  pub delivers_reachable : {H : ℕ} → 0 < amount → Delivers N H amount → Reachable N
  delivers_reachable {H} p d =
      elim (reachable_or_separated connects) [
        | inl r ↦ r
        | inr s ↦ absurd (omega (arith, d.enough, separated_delivers_none connects s.1 H d.entries d.flow))
      ]

  -- an amount from 1 on has a least horizon exactly where there is a chain
  pub least_exactly : 0 < amount → Reachable N ↔ SomeLeast N amount
  least_exactly p = (reachable_least, λ t. delivers_reachable p t.is_least.attained)
