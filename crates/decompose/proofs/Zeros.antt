-- How many links have no blocks: fewer than there are links while one has some, and more when a link that had some has none left, since
-- the count is a sum that gains a term. Assumes nothing.
use mathlib.Core.Path.{◌≡◌, ap}
use mathlib.Core.List.{List}
use Prim.Native.Nat.{ℕ, ◌+◌, ◌≤◌, ◌<◌}
use native.Mathlib.Nat.{one-mul}
use native.Mathlib.Omega.{arith}
use native.Mathlib.Decide.{ℕ_discrete}
use Rattle.flows.specs.Sums.{sum, only}
use Rattle.flows.proofs.Sums.{sum_le, sum_add, sum_only, sum_most, only_same, only_other, only_most}
use Rattle.statics.specs.Static.{on_link}

-- of the links below n
abbrev pub zeros : List ℕ → ℕ → ℕ
zeros x n = sum (λ e. only (on_link x e) 0 1) n

none : (n : ℕ) → 0 < n → only n 0 1 ≡ 0
none n p = only_other n 0 1 (λ h. omega arith)

grows : (m n : ℕ) → n ≤ m → only m 0 1 ≤ only n 0 1
grows m n p =
    elim (ℕ_discrete m 0) [
      | yes h ↦ let z : n ≡ 0 = omega arith in rw (h, z) (omega arith)
      | no h ↦ omega (arith, only_other m 0 1 h)
    ]

-- the count, and one for the link d besides
with_one : (x : List ℕ) (d n : ℕ) → d < n → sum (λ e. only (on_link x e) 0 1 + only d e 1) n ≡ zeros x n + 1
with_one x d n p = omega (arith, sum_add (λ e. only (on_link x e) 0 1) (λ e. only d e 1) n, sum_only (λ e. 1) d n p)

pub zeros_less : (x : List ℕ) (d n : ℕ) → d < n → 0 < on_link x d → zeros x n < n
zeros_less x d n p q =
    omega (
      arith,
      with_one x d n p,
      one-mul n,
      sum_most (λ e. only (on_link x e) 0 1 + only d e 1) 1 n (λ e r.
          elim (ℕ_discrete d e) [
            | yes h ↦ omega (arith, none (on_link x e) (rw (← h) q), only_most d e 1)
            | no h ↦ omega (arith, only_most (on_link x e) 0 1, only_other d e 1 h)
          ]),
    )

pub zeros_more : (x y : List ℕ) (d n : ℕ) → d < n → 0 < on_link x d → on_link y d ≡ 0 → ((e : ℕ) → e < n → on_link y e ≤ on_link x e)
    → zeros x n < zeros y n
zeros_more x y d n p q z less =
    omega (
      arith,
      with_one x d n p,
      sum_le {g = λ e. only (on_link x e) 0 1 + only d e 1} {h = λ e. only (on_link y e) 0 1} n (λ e r.
          elim (ℕ_discrete d e) [
            | yes h ↦
                let k : on_link y e ≡ 0 = rw (← h) z in
                omega (arith, none (on_link x e) (rw (← h) q), only_most d e 1, ap (λ (t : ℕ). only t 0 1) k, only_same 0 1)
            | no h ↦ omega (arith, grows (on_link x e) (on_link y e) (less e r), only_other d e 1 h)
          ]),
    )
