-- One block more over the places that were reached: back from the destination over the arc that reached it, and so on over the
-- places reached before it. A link that is crossed has an end outside those, so the arcs that reached them are as they were. Assumes
-- nothing.
use mathlib.Core.Path.{◌≡◌, ap, ◌∙◌}
use mathlib.Core.Logic.{◌≢◌}
use mathlib.Core.List.{List, [], ◌∷◌}
use Prim.Native.Nat.{ℕ, ◌+◌, ◌-◌, ◌≤◌}
use native.Mathlib.Omega.{arith}
use native.Mathlib.Decide.{ℕ_discrete}
use lib.ListN.{length, set, length-set}
use lib.Seq.{get_or-set_other}
use Rattle.flows.specs.Network.{Network, link, count}
use Rattle.flows.proofs.Sums.{only_other}
use Rattle.statics.specs.Static.{on_link}
use Rattle.statics.specs.Potentials.{PrimalDual, Augmenting}
use Rattle.statics.proofs.PrimalDual.{augment_begin, augment_forward, augment_backward, augment_end}
use Rattle.statics.proofs.TightReach.{outside, outside_first, forward, backward, Grown}

-- another number on a link that is not one between the places
module _ (N : Network) (x π : List ℕ) (l n : ℕ) where
  grown_set : (ps : List ℕ)
      → ((e : ℕ) → outside N.origin ps (link N e).start ≡ 0 → outside N.origin ps (link N e).end ≡ 0 → e ≢ l)
      → Grown N x π ps → Grown N (set x l n) π ps
  grown_set [] away g = tt
  grown_set (w ∷ ps) away g =
      let o : ℕ = N.origin in
      let rest = grown_set ps (λ e s t. away e (omega arith) (omega arith)) g.2 in
      elim g.1 [
        | forward e p s t room tight ↦
            let h : e ≢ l = away e (omega arith) (ap (outside o (w ∷ ps)) t ∙ outside_first o w ps) in
            (g.0, forward e p s t (rw (get_or-set_other x l e n 0 h) room) tight, rest)
        | backward e p t s used tight ↦
            let h : e ≢ l = away e (ap (outside o (w ∷ ps)) s ∙ outside_first o w ps) (omega arith) in
            (g.0, backward e p t s (rw (get_or-set_other x l e n 0 h) used) tight, rest)
      ]

-- links with one block more of value
pub record Pushed (N : Network) (v : ℕ) (π : List ℕ) : Type 0 where
  pub blocks : List ℕ
  pub many : count N ≤ length blocks
  pub state : PrimalDual N blocks (v + 1) π

-- the block stands at w, one of the places
push_from : {N : Network} {π : List ℕ} {v : ℕ} (ps x : List ℕ) (w : ℕ) → count N ≤ length x → Grown N x π ps → outside N.origin ps w ≡ 0
    → Augmenting N x v w 1 π → Pushed N v π
push_from {N} {π} {v} [] x w long g i s =
    elim (ℕ_discrete N.origin w) [
      | yes h ↦ record { blocks = x; many = long; state = augment_end (rw (← h) at s) }
      | no h ↦ absurd (omega (arith, only_other N.origin w 1 h))
    ]
push_from {N} {π} {v} (p ∷ ps) x w long g i s =
    let o : ℕ = N.origin in
    elim (ℕ_discrete p w) [
      | no h ↦ push_from ps x w long g.2 (omega (arith, only_other p w 1 h)) s
      | yes h ↦ elim g.1 [
        | forward e q a t room tight ↦
            let n : ℕ = on_link x e + 1 in
            push_from ps (set x e n) (link N e).start
            (rw length-set long)
            (grown_set N x π e n ps (λ j y z k. omega (arith, g.0, ap (λ (m : ℕ). outside o ps (link N m).end) k, ap (outside o ps) t)) g.2)
            a
            (augment_forward e q (omega arith) tight s (t ∙ h) (omega arith))
        | backward e q a t used tight ↦
            let n : ℕ = on_link x e - 1 in
            push_from ps (set x e n) (link N e).end
            (rw length-set long)
            (grown_set N x π e n ps (λ j y z k. omega (arith, g.0, ap (λ (m : ℕ). outside o ps (link N m).start) k, ap (outside o ps) t)) g.2)
            a
            (augment_backward e q (omega arith) tight s (t ∙ h) (omega arith))
      ]
    ]

pub push : {N : Network} {x π : List ℕ} {v : ℕ} (ps : List ℕ) → count N ≤ length x → Grown N x π ps
    → outside N.origin ps N.destination ≡ 0 → PrimalDual N x v π → Pushed N v π
push {N} {x} ps long g i s = push_from ps x N.destination long g i (augment_begin 1 s)
