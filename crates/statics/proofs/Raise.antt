-- Potentials raised by distances, capped, keep slackness: along a residual arc the capped distance grows by no more than the reduced
-- cost; and on an arc whose distances differ by just its reduced cost the link becomes tight, so that its blocks may change. Assumes
-- nothing.
use mathlib.Core.Path.{◌≡◌}
use mathlib.Core.List.{List}
use Prim.Native.Nat.{ℕ, ◌+◌, ◌≤◌, ◌<◌, min}
use native.Mathlib.Omega.{arith}
use native.Mathlib.Decide.{ℕ_discrete}
use lib.ListN.{set}
use lib.Seq.{get_or-set_other}
use Rattle.flows.specs.Network.{Network, link, count, Connects}
use Rattle.flows.specs.Cut.{number}
use Rattle.statics.specs.Static.{on_link, Slackness}
use Rattle.statics.specs.Potentials.{Potentials, Tight, Distances, Raised}

-- the start: nothing on the links, all potentials 0
pub zero_slackness : (N : Network) (x π : List ℕ) → ((e : ℕ) → e < count N → on_link x e ≡ 0) → ((u : ℕ) → number π u ≡ 0) → Slackness N x π
zero_slackness N x π z y =
    record {
      room = λ e p h. omega (arith, y (link N e).end);
      used = λ e p h. absurd (omega (arith, z e p));
    }

-- π raised by the distances d as far as δ
module _ {N : Network} {π π' : List ℕ} {d : ℕ → ℕ} {δ : ℕ} (connects : Connects N) (raised : Raised N π d δ π') where
  at_start : (e : ℕ) → e < count N → number π' (link N e).start ≡ number π (link N e).start + min (d (link N e).start) δ
  at_start e p = raised.by_distance (link N e).start (connects.start_in e p)

  at_end : (e : ℕ) → e < count N → number π' (link N e).end ≡ number π (link N e).end + min (d (link N e).end) δ
  at_end e p = raised.by_distance (link N e).end (connects.end_in e p)

  pub raised_slackness : {x : List ℕ} → Distances N x π d δ → Slackness N x π'
  raised_slackness near =
      record {
        room = λ e p h. omega (arith, at_start e p, at_end e p, near.forward e p h);
        used = λ e p h. omega (arith, at_start e p, at_end e p, near.backward e p h);
      }

  pub raised_destination : {x : List ℕ} → Distances N x π d δ → number π' N.destination ≡ number π N.destination + δ
  raised_destination near = omega (arith, raised.by_distance N.destination connects.destination_in, near.to_destination)

  pub raised_potentials : {x : List ℕ} → Distances N x π d δ → Potentials N π → Potentials N π'
  raised_potentials near s =
      record {
        at_origin = omega (arith, raised.by_distance N.origin connects.origin_in, s.at_origin, near.from_origin);
        at_most = λ u p. omega (arith, raised.by_distance u p, s.at_most u p, raised_destination near);
      }

  -- an arc whose distances differ by its reduced cost, neither of them capped
  pub raised_tight : (e : ℕ) → e < count N → d (link N e).start ≤ δ → d (link N e).end ≤ δ
      → d (link N e).end + number π (link N e).end ≡ d (link N e).start + (number π (link N e).start + (link N e).transit)
      → Tight N π' e
  raised_tight e p q r h = omega (arith, at_start e p, at_end e p)

-- on a tight link anything may change
pub set_slackness : {N : Network} {x π : List ℕ} (l n : ℕ) → Tight N π l → Slackness N x π → Slackness N (set x l n) π
set_slackness {N} {x} {π} l n t s =
    record {
      room = λ e p h. elim (ℕ_discrete e l) [
        | yes i ↦ rw i (omega arith)
        | no i ↦ s.room e p (rw (get_or-set_other x l e n 0 i) at h)
      ];
      used = λ e p h. elim (ℕ_discrete e l) [
        | yes i ↦ rw i (omega arith)
        | no i ↦ s.used e p (rw (get_or-set_other x l e n 0 i) at h)
      ];
    }
