-- For every network and every horizon there is a static flow that is optimal for it, with potentials that prove it: from nothing, as
-- long as the destination's potential is below the slots that count, either one block more reaches the destination over tight links, or
-- all places that none reaches rise by 1. The value never passes what the links take in, so this ends. The steps are single blocks and
-- single slots: no code goes this way, and none is appealed to. Assumes nothing.
use mathlib.Core.Path.{◌≡◌}
use mathlib.Core.List.{List}
use Prim.Native.Nat.{ℕ, zero, suc, ◌+◌, ◌-◌, ◌*◌, ◌≤◌, min}
use native.Mathlib.Nat.{le_trans}
use native.Mathlib.Omega.{arith}
use native.Mathlib.Decide.{ℕ_discrete}
use lib.ListN.{length, replicate, length-replicate}
use Rattle.flows.specs.Clock.{counting}
use Rattle.flows.specs.Sums.{sum}
use Rattle.flows.specs.Network.{Network, link, count, Connects}
use Rattle.flows.specs.Flow.{Most}
use Rattle.flows.specs.Cut.{number}
use Rattle.flows.proofs.Sums.{sum_le}
use Rattle.flows.proofs.Lists.{listed, listed_length, listed_at}
use Rattle.statics.specs.Static.{cost}
use Rattle.statics.specs.Potentials.{PrimalDual, Raised, Optimal}
use Rattle.statics.proofs.Balance.{on_link_zeros}
use Rattle.statics.proofs.Raise.{raised_destination}
use Rattle.statics.proofs.PrimalDual.{zero_state_lem, raise, state_most}
use Rattle.statics.proofs.Sizes.{value_most}
use Rattle.statics.proofs.TightReach.{outside, outside_most, reached}
use Rattle.statics.proofs.Push.{push}

-- a static flow and potentials at the level of as many slots as count of a horizon are optimal for it
pub optimal_most : {N : Network} {H : ℕ} → Connects N → (o : Optimal N (counting H)) → Most N H (counting H * o.value - cost N o.blocks)
optimal_most {H = H} connects o = state_most connects o.state H o.level o.long

-- ---- a step

-- what all links take in in a slot
abbrev taken : Network → ℕ
taken N = sum (λ e. (link N e).capacity) (count N)

value_taken : {N : Network} {x π : List ℕ} {v : ℕ} → Connects N → PrimalDual N x v π → v ≤ taken N
value_taken {N} connects s = le_trans (value_most s.flow connects) (sum_le (count N) s.flow.within)

-- the potentials π, higher by d, as far as 1
module _ (N : Network) (π : List ℕ) (d : ℕ → ℕ) where
  lifted : List ℕ
  lifted = listed (λ u. number π u + min (d u) 1) N.places

  lifted_long : N.places ≤ length lifted
  unfolding lifted
  lifted_long = omega (arith, listed_length (λ u. number π u + min (d u) 1) N.places)

  lifted_raised : Raised N π d 1 lifted
  unfolding lifted
  lifted_raised = record { by_distance = listed_at (λ u. number π u + min (d u) 1) N.places }

-- ---- all steps

module _ {N : Network} (connects : Connects N) (slots : ℕ) where
  climb : (fuel : ℕ) (x π : List ℕ) (v : ℕ) → count N ≤ length x → N.places ≤ length π → PrimalDual N x v π
      → number π N.destination ≤ slots → (slots - number π N.destination) + (taken N - v) ≤ fuel → Optimal N slots
  climb zero x π v many long s low p =
      record { blocks = x; value = v; potentials = π; state = s; long = long; level = omega arith }
  climb (suc fuel) x π v many long s low p =
      elim (ℕ_discrete (number π N.destination) slots) [
        | yes h ↦ record { blocks = x; value = v; potentials = π; state = s; long = long; level = h }
        | no h ↦
            let r = reached connects s.slackness in
            let d : ℕ → ℕ = outside N.origin r.places in
            elim (ℕ_discrete (d N.destination) 0) [
              | yes i ↦
                  let y = push r.places many r.grown i s in
                  climb fuel y.blocks π (v + 1) y.many long y.state low (omega (arith, value_taken connects y.state))
              | no i ↦
                  let near = r.ends (omega (arith, outside_most N.origin r.places N.destination)) in
                  let up = lifted_raised N π d in
                  let top = raised_destination connects up near in
                  climb fuel x (lifted N π d) v many (lifted_long N π d) (raise connects up near s) (omega arith) (omega arith)
            ]
      ]

  pub optimal : Optimal N slots
  optimal =
      let π : List ℕ = replicate N.places 0 in
      let z : number π N.destination ≡ 0 = on_link_zeros N.places N.destination in
      climb (slots + taken N) (replicate (count N) 0) π 0
      (omega (arith, length-replicate {A = ℕ} (count N) 0))
      (omega (arith, length-replicate {A = ℕ} N.places 0))
      (zero_state_lem N (count N) N.places)
      (omega arith)
      (omega arith)
