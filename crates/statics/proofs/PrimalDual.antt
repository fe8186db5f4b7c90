-- The primal_dual method, step by step: it starts from nothing, a raise and an augmentation along tight links keep its state, and in
-- each state flow and potentials prove each other best for the horizon of which as many slots count as the destination's potential says. Assumes nothing.
use mathlib.Core.Path.{◌≡◌}
use mathlib.Core.List.{List}
use Prim.Native.Nat.{ℕ, ◌+◌, ◌-◌, ◌*◌, ◌≤◌, ◌<◌}
use native.Mathlib.Omega.{arith}
use lib.ListN.{length, set, take, replicate}
use Rattle.flows.specs.Clock.{counting}
use Rattle.flows.specs.Network.{Network, link, count, Connects}
use Rattle.flows.specs.Flow.{Most}
use Rattle.flows.specs.Cut.{number, IsCut, bound}
use Rattle.statics.specs.Static.{on_link, cost}
use Rattle.statics.specs.Potentials.{Tight, Distances, Raised, PrimalDual, Augmenting}
use Rattle.statics.proofs.Balance.{on_link_zeros, zeros_flow, balanced_add, balanced_take, balances_begin, balances_join, within_set}
use Rattle.statics.proofs.Strong.{strong_duality}
use Rattle.statics.proofs.Potentials.{take_cut, take_bound}
use Rattle.statics.proofs.Raise.{zero_slackness, raised_slackness, raised_potentials, set_slackness}
use Rattle.statics.proofs.Optimum.{most_at_bound}

-- ---- the start

pub zero_state_lem : (N : Network) (m n : ℕ) → PrimalDual N (replicate m 0) 0 (replicate n 0)
zero_state_lem N m n =
    record {
      flow = zeros_flow N m;
      slackness = zero_slackness N (replicate m 0) (replicate n 0) (λ e p. on_link_zeros m e) (λ u. on_link_zeros n u);
      potentials = record { at_origin = on_link_zeros n N.origin; at_most = λ u p. omega (arith, on_link_zeros n u) };
    }

-- ---- a raise

pub raise : {N : Network} {x π π' : List ℕ} {v δ : ℕ} {d : ℕ → ℕ} → Connects N → Raised N π d δ π' → Distances N x π d δ
    → PrimalDual N x v π → PrimalDual N x v π'
raise connects raised near s =
    record {
      flow = s.flow;
      slackness = raised_slackness connects raised near;
      potentials = raised_potentials connects raised near s.potentials;
    }

-- ---- an augmentation

pub augment_begin : {N : Network} {x π : List ℕ} {v : ℕ} (b : ℕ) → PrimalDual N x v π → Augmenting N x v N.destination b π
augment_begin {N} {x} {π} {v} b s =
    record {
      within = s.flow.within;
      balanced = balances_begin N (on_link x) v b s.flow.balanced;
      slackness = s.slackness;
      potentials = s.potentials;
    }

module _ {N : Network} {x π : List ℕ} {v w b : ℕ} (l : ℕ) (p : l < count N) (q : l < length x) (tight : Tight N π l)
    (s : Augmenting N x v w b π) where
  -- over a forward arc to w
  pub augment_forward : (link N l).end ≡ w → on_link x l + b ≤ (link N l).capacity
      → Augmenting N (set x l (on_link x l + b)) v (link N l).start b π
  augment_forward e f =
      record {
        within = within_set N x l (on_link x l + b) f s.within;
        balanced = balanced_add N x v w b l p q e s.balanced;
        slackness = set_slackness l (on_link x l + b) tight s.slackness;
        potentials = s.potentials;
      }

  -- over a backward arc to w
  pub augment_backward : (link N l).start ≡ w → b ≤ on_link x l → Augmenting N (set x l (on_link x l - b)) v (link N l).end b π
  augment_backward e f =
      record {
        within = within_set N x l (on_link x l - b) (omega (arith, s.within l p)) s.within;
        balanced = balanced_take N x v w b l p q f e s.balanced;
        slackness = set_slackness l (on_link x l - b) tight s.slackness;
        potentials = s.potentials;
      }

pub augment_end : {N : Network} {x π : List ℕ} {v b : ℕ} → Augmenting N x v N.origin b π → PrimalDual N x (v + b) π
augment_end {N} {x} {π} {v} {b} s =
    record {
      flow = record { within = s.within; balanced = balances_join N (on_link x) v b s.balanced };
      slackness = s.slackness;
      potentials = s.potentials;
    }

-- ---- what a state says

module _ {N : Network} {x π : List ℕ} {v : ℕ} (connects : Connects N) (s : PrimalDual N x v π) where
  pub state_duality : number π N.destination * v ≡ bound N π + cost N x
  state_duality = strong_duality connects s.flow s.slackness s.potentials.at_origin

  -- the potentials are a cut, one number for each place; its bound is the most by its horizon
  pub state_bound : bound N (take N.places π) ≡ number π N.destination * v - cost N x
  state_bound = omega (arith, take_bound π connects, state_duality)

  module _ (H : ℕ) (level : number π N.destination ≡ counting H) (long : N.places ≤ length π) where
    pub state_cut : IsCut N H (take N.places π)
    state_cut = take_cut π connects H level long s.potentials

    pub state_most : Most N H (counting H * v - cost N x)
    state_most = most_at_bound connects s.flow state_cut (rw level at state_bound)
