-- How large things get within document 01's limits: the value of a static flow arrives at the destination over links, so it is at
-- most what all links hold; and a chain that visits no place twice lasts less than the places are many times the longest transit,
-- so the longest horizon leaves room for the largest amount. Assumes nothing.
use mathlib.Core.Path.{◌≡◌, sym}
use mathlib.Core.List.{List, [], ◌∷◌}
use Prim.Native.Nat.{ℕ, ◌+◌, ◌*◌, ◌≤◌, ◌<◌, zero-le}
use native.Mathlib.Nat.{le_trans, mul-le-mul, mul-le-mul_left, mul-suc}
use native.Mathlib.Omega.{arith}
use lib.ListN.{length}
use Rattle.limits.specs.Limits.{most_links, most_capacity, most_transit, most_amount, most_cut_number}
use Rattle.flows.specs.Sums.{sum, gather}
use Rattle.flows.specs.Network.{Network, link, count, into, Connects, WellFormed}
use Rattle.flows.specs.Cut.{number, bound}
use Rattle.flows.specs.Rows.{Leads, IsChain, duration}
use Rattle.flows.proofs.Sums.{sum_le, sum_most, only_same, only_other, only_most}
use Rattle.statics.specs.Static.{on_link, cost, StaticFlow}
use Rattle.statics.specs.Potentials.{Potentials}
use Rattle.statics.specs.Reach.{Simple, Open}
use Rattle.statics.proofs.Chains.{simple_once, simple_length}
use Rattle.statics.proofs.Closed.{chain_potentials_bound}

module _ {N : Network} {x : List ℕ} {v : ℕ} (flow : StaticFlow N x v) where
  into_most : (u : ℕ) → into N (on_link x) u ≤ sum (on_link x) (count N)
  unfolding gather
  into_most u = sum_le (count N) (λ e p. only_most (link N e).end u (on_link x e))

  pub value_most : Connects N → v ≤ sum (on_link x) (count N)
  value_most connects =
      let d : ℕ = N.destination in
      let none : N.origin ≡ d → ⊥ = λ h. connects.apart (sym h) in
      omega (
        arith,
        flow.balanced d,
        into_most d,
        only_same d (v + 0),
        only_other N.origin d v none,
        only_other N.origin d 0 none,
      )

  module _ (wf : WellFormed N) where
    on_link_most : (e : ℕ) → e < count N → on_link x e ≤ most_capacity
    on_link_most e p = le_trans (flow.within e p) (wf.capacity_most e p)

    pub value_limit : v ≤ most_capacity * most_links
    value_limit =
        omega (
          arith,
          value_most wf.connects,
          sum_most (on_link x) most_capacity (count N) on_link_most,
          mul-le-mul_left most_capacity wf.links_most,
        )

    pub cost_limit : cost N x ≤ most_transit * most_capacity * most_links
    unfolding cost
    cost_limit =
        omega (
          arith,
          sum_most (λ e. (link N e).transit * on_link x e) (most_transit * most_capacity) (count N)
              (λ e p. mul-le-mul (wf.transit_most e p) (on_link_most e p)),
          mul-le-mul_left (most_transit * most_capacity) wf.links_most,
        )

-- a chain lasts at most the longest transit for each link
duration_most : (N : Network) → WellFormed N → (es : List ℕ) (u w : ℕ) → Leads N u w es → duration N es ≤ most_transit * length es
duration_most N wf [] u w c = zero-le
duration_most N wf (e ∷ es) u w c =
    rw mul-suc (omega (arith, duration_most N wf es (link N e).end w c.2, wf.transit_most e c.0))

module _ {N : Network} (wf : WellFormed N) (es : List ℕ) (chain : IsChain N es) (simple : Simple N es) where
  -- one block in each slot over such a chain brings the largest amount within the longest horizon
  pub simple_duration : duration N es + most_amount ≤ most_cut_number
  simple_duration =
      omega (
        arith,
        duration_most N wf es N.origin N.destination chain,
        simple_length N es wf.connects chain simple,
        wf.places_most,
      )

  -- so at the longest horizon no bound is below an amount, if the chain's links are open
  pub limit_bound : (π : List ℕ) (amount : ℕ) → Open N es → amount ≤ most_amount → N.places ≤ length π → Potentials N π
      → most_cut_number ≤ number π N.destination → amount ≤ bound N π
  limit_bound π amount opens few long s far =
      chain_potentials_bound wf.connects es chain opens (simple_once N es chain simple) amount π long s (omega (arith, simple_duration))
