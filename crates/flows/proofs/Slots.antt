-- What leaves a place and arrives at it in one slot, of which what left and arrived before a slot are the running sums; and both
-- depend on the entries alone and add up with them. Assumes nothing.
use mathlib.Core.Path.{◌≡◌, ◌∙◌}
use mathlib.Core.Bool.{cond}
use Prim.Native.Nat.{ℕ, suc, ◌+◌, ◌-◌}
use native.Mathlib.Nat.{add-zero}
use native.Mathlib.Omega.{arith}
use native.Mathlib.Decide.{dec_le}
use lib.Dec.{leb, leb→le, le→leb}
use Rattle.flows.specs.Sums.{sum}
use Rattle.flows.specs.Network.{Network, link, count}
use Rattle.flows.specs.Flow.{left, arrived}
use Rattle.flows.specs.Holding.{leaving, arriving}
use Rattle.flows.proofs.Sums.{sum_eq, sum_zero, sum_add, cond_yes, cond_no, gather_eq, gather_zero, gather_add}

-- ---- one more slot

-- a sum that begins t slots late
sum_late : (g : ℕ → ℕ) (t s : ℕ) → sum g (suc s - t) ≡ sum g (s - t) + cond (leb t s) (g (s - t)) 0
sum_late g t s =
    elim (dec_le t s) [
      | yes p ↦ let e : suc s - t ≡ suc (s - t) = omega arith in rw (e, cond_yes (leb t s) (g (s - t)) (le→leb t s p))
      | no p ↦
          let e : suc s - t ≡ s - t = omega arith in
          rw (e, cond_no (leb t s) (g (s - t)) (λ t₁. p (leb→le t s t₁)), add-zero)
    ]

module _ (N : Network) (f : ℕ → ℕ → ℕ) (v s : ℕ) where
  pub left_suc : left N f v (suc s) ≡ left N f v s + leaving N f v s
  left_suc = gather_add _ (count N) _ _ v

  pub arrived_suc : arrived N f v (suc s) ≡ arrived N f v s + arriving N f v s
  arrived_suc = gather_eq _ (count N) v (λ e p. sum_late (f e) (link N e).transit s) ∙ gather_add _ (count N) _ _ v

-- ---- entries that agree, that add up, that are none

module _ (N : Network) (f g : ℕ → ℕ → ℕ) (v k : ℕ) where
  pub left_eq : ((e s : ℕ) → f e s ≡ g e s) → left N f v k ≡ left N g v k
  left_eq p = gather_eq _ (count N) v (λ e q. sum_eq k (λ s r. p e s))

  pub arrived_eq : ((e s : ℕ) → f e s ≡ g e s) → arrived N f v k ≡ arrived N g v k
  arrived_eq p = gather_eq _ (count N) v (λ e q. sum_eq (k - (link N e).transit) (λ s r. p e s))

  pub left_add : left N (λ e s. f e s + g e s) v k ≡ left N f v k + left N g v k
  left_add = gather_eq _ (count N) v (λ e p. sum_add (f e) (g e) k) ∙ gather_add _ (count N) _ _ v

  pub arrived_add : arrived N (λ e s. f e s + g e s) v k ≡ arrived N f v k + arrived N g v k
  arrived_add = gather_eq _ (count N) v (λ e p. sum_add (f e) (g e) (k - (link N e).transit)) ∙ gather_add _ (count N) _ _ v

module _ (N : Network) (v k : ℕ) where
  pub left_none : left N (λ e s. 0) v k ≡ 0
  left_none = gather_eq _ (count N) v (λ e p. sum_zero k) ∙ gather_zero _ (count N) v

  pub arrived_none : arrived N (λ e s. 0) v k ≡ 0
  arrived_none = gather_eq _ (count N) v (λ e p. sum_zero (k - (link N e).transit)) ∙ gather_zero _ (count N) v
