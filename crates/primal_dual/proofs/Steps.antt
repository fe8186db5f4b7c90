-- A step to a limit: raised by the whole reach, where the limit has room for it, the flow is augmented; raised by the room otherwise,
-- the destination's potential is the limit. Steps come to the horizon, since each makes the level or the value grow. Assumes nothing.
use mathlib.Core.Path.{◌≡◌, refl}
use Prim.Native.Nat.{ℕ, ◌+◌, ◌-◌, ◌*◌, ◌≤◌, ◌<◌}
use native.Mathlib.Omega.{arith}
use Rattle.limits.specs.Limits.{most_links, most_capacity, most_cut_number}
use Rattle.flows.specs.Network.{Network, WellFormed}
use Rattle.statics.proofs.Sizes.{value_limit}
use Rattle.residual.specs.declared.Tree.{Tree}
use Rattle.residual.specs.Tree.{Searched}
use Rattle.states.specs.declared.State.{State}
use Rattle.states.specs.Steps.{level, raised_by, Augmented, Steppable, zero_state}
use Rattle.states.proofs.Start.{zero_sound, zero_level}
use Rattle.states.proofs.Raised.{raised_level, raised_sound}
use Rattle.states.proofs.Steps.{raised_to}
use Rattle.primal_dual.specs.Steps.{Stepped, Begun}

raised_value : (δ : ℕ) (s : State) (t : Tree) → (raised_by δ s t).value ≡ s.value
unfolding raised_by
raised_value δ s t = refl

module _ {N : Network} {s : State} {limit : ℕ} (p : Steppable N s limit) {t : Tree} (found : Searched N s.flow s.potential t) where
  -- the limit has room for the whole reach
  pub augment_stepped : t.reach ≤ limit - level N s → {r : State} → Augmented N (raised_by t.reach s t) r → Stepped N s limit r
  augment_stepped h {r} a =
      let l : level N r ≡ level N s + t.reach = rw a.potentials (raised_to p found h) in
      record {
        sound = a.sound;
        within = omega (arith, p.below);
        level_kept = omega arith;
        value_kept = omega (arith, a.grows, raised_value t.reach s t);
        grows = λ i. omega (arith, a.grows, raised_value t.reach s t);
      }

  -- the reach is beyond the limit
  module _ (h : limit - level N s < t.reach) where
    near : limit - level N s ≤ t.reach
    near = omega arith

    pub raise_stepped : Stepped N s limit (raised_by (limit - level N s) s t)
    raise_stepped =
        let c = p.well_formed.connects in
        let l = raised_level c p.sound found near in
        record {
          sound = raised_sound c p.sound found near (omega (arith, p.below, p.limit_most));
          within = omega (arith, p.below);
          level_kept = omega arith;
          value_kept = omega (arith, raised_value (limit - level N s) s t);
          grows = λ i. omega (arith, raised_value (limit - level N s) s t);
        }

-- how far a state is from the end at most: its level is short of the horizon, its value of the most
abbrev pub ahead : Network → ℕ → State → ℕ
ahead N horizon s = horizon + most_capacity * most_links - (level N s + s.value)

-- a step leaves what steps may begin with
pub begun : {N : Network} {s r : State} {horizon : ℕ} → Stepped N s horizon r → Begun N horizon r
begun t = record { sound = t.sound; below = t.within }

module _ {N : Network} {horizon : ℕ} (formed : WellFormed N) (most : horizon ≤ most_cut_number) where
  -- the first step, from no flow
  pub zero_steppable : {s : State} → s ≡ zero_state → Steppable N s horizon
  zero_steppable q =
      rw q
      (record {
        well_formed = formed;
        sound = zero_sound N;
        below = omega (arith, zero_level N);
        limit_most = most;
      })

  module _ {s : State} (g : Begun N horizon s) where
    pub steppable : Steppable N s horizon
    steppable = record { well_formed = formed; sound = g.sound; below = g.below; limit_most = most }

    pub nearer : {r : State} → Stepped N s horizon r → level N s < horizon → ahead N horizon r < ahead N horizon s
    nearer t h =
        omega (
          arith,
          t.within,
          t.grows h,
          value_limit t.sound.primal_dual.flow formed,
          value_limit g.sound.primal_dual.flow formed,
        )
