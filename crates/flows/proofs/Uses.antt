-- What uses of links put into them: a use enters its own link, in as many slots as it has departures, so that before slot k it has
-- entered rate times the slots of these that lie before k. Assumes nothing.
use mathlib.Core.Path.{◌≡◌, refl, ap, ◌∙◌}
use mathlib.Core.Bool.{Bool, cond, ◌&&◌}
use mathlib.Core.List.{List, [], ◌∷◌, ◌++◌}
use Prim.Native.Nat.{ℕ, zero, suc, ◌+◌, ◌-◌, ◌*◌, ◌≤◌, ◌<◌, min}
use native.Mathlib.Nat.{zero-sub, mul-suc, mul-zero, min-zero, add-zero}
use native.Mathlib.Omega.{arith}
use native.Mathlib.Decide.{dec_le, dec_lt}
use lib.Dec.{T, leb, ltb, eqb, le→leb, leb→le, lt→ltb, ltb→lt, eqb→eq}
use Rattle.flows.specs.Sums.{sum, only}
use Rattle.flows.specs.Network.{Network, link, count}
use Rattle.flows.specs.Flow.{left, arrived}
use Rattle.flows.specs.Rows.{Row, Use, uses_of, all_uses, enters, entering, load}
use Rattle.flows.proofs.Sums.{sum_eq, cond_yes, cond_no, cond_le, cond_and, cond_pos, and_split, and_join, only_same, only_sum, gather_eq, gather_one}

-- the slots of a use
pub record Active (u : Use) (s : ℕ) : Type 0 where
  pub from : u.entry ≤ s
  pub until : s < u.entry + u.departures

abbrev active : Use → ℕ → Bool
active u s = leb u.entry s && ltb s (u.entry + u.departures)

active_is : (u : Use) (s : ℕ) → T (active u s) → Active u s
active_is u s t =
    let r = and_split (leb u.entry s) (ltb s (u.entry + u.departures)) t in
    record { from = leb→le _ _ r.0; until = ltb→lt _ _ r.1 }

active_of : (u : Use) (s : ℕ) → Active u s → T (active u s)
active_of u s a =
    and_join (leb u.entry s) (ltb s (u.entry + u.departures)) (le→leb _ _ a.from) (lt→ltb _ _ a.until)

-- what a use puts into its link in slot s
unfoldable pub window : Use → ℕ → ℕ
window u s = cond (active u s) u.rate 0

module _ (u : Use) (s : ℕ) where
  window_in : Active u s → window u s ≡ u.rate
  unfolding window
  window_in a = cond_yes (active u s) u.rate (active_of u s a)

  window_out : (Active u s → ⊥) → window u s ≡ 0
  unfolding window
  window_out n = cond_no (active u s) u.rate (λ t. n (active_is u s t))

-- of so many slots from one on, those before the next slot: one more inside, and none more outside
more_inside : (d e k : ℕ) → e ≤ k → k < e + d → min d (suc k - e) ≡ suc (min d (k - e))
more_inside d e k p q = omega arith

none_after : (d e k : ℕ) → e + d ≤ k → min d (suc k - e) ≡ min d (k - e)
none_after d e k q = omega arith

none_before : (d e k : ℕ) → k < e → min d (suc k - e) ≡ min d (k - e)
none_before d e k p = omega arith

-- what a use puts into its link before slot k
pub window_sum : (u : Use) (k : ℕ) → sum (window u) k ≡ u.rate * min u.departures (k - u.entry)
window_sum u zero = rw (zero-sub, min-zero, mul-zero)
window_sum u (suc k) =
    elim (dec_le u.entry k) [
      | yes p ↦ elim (dec_lt k (u.entry + u.departures)) [
        | yes q ↦ rw (more_inside u.departures u.entry k p q, mul-suc, ← window_sum u k, window_in u k (record { from = p; until = q }))
        | no q ↦
            rw (
              none_after u.departures u.entry k (omega arith),
              ← window_sum u k,
              window_out u k (λ a. q a.until),
              add-zero,
            )
      ]
      | no p ↦ rw (none_before u.departures u.entry k (omega arith), ← window_sum u k, window_out u k (λ a. p a.from), add-zero)
    ]

-- ---- enters

module _ (u : Use) (e s : ℕ) where
  pub enters_only : enters u e s ≡ only u.link e (window u s)
  unfolding enters only window
  enters_only = cond_and (eqb u.link e) (active u s) u.rate

  pub enters_le : enters u e s ≤ u.rate
  unfolding enters
  enters_le = cond_le (eqb u.link e && active u s) u.rate

  pub enters_in : u.link ≡ e → Active u s → enters u e s ≡ u.rate
  enters_in p a = enters_only ∙ ap (λ (x : ℕ). only x e (window u s)) p ∙ only_same e (window u s) ∙ window_in u s a

  pub enters_pos : 0 < enters u e s → (u.link ≡ e) × Active u s × (0 < u.rate)
  unfolding enters
  enters_pos p =
      let b = cond_pos (eqb u.link e && active u s) u.rate p in
      let l = and_split (eqb u.link e) (active u s) b.0 in
      (eqb→eq _ _ l.0, active_is u s l.1, b.1)

-- one use, at a place before slot k
module _ (N : Network) (u : Use) (p : u.link < count N) (v k : ℕ) where
  pub left_use : left N (enters u) v k ≡ only (link N u.link).start v (u.rate * min u.departures (k - u.entry))
  left_use =
      gather_eq _ (count N) v (λ e q. sum_eq k (λ s r. enters_only u e s) ∙ only_sum u.link e (window u) k)
      ∙ gather_one _ (count N) u.link (λ e. sum (window u) k) v p
      ∙ ap (only (link N u.link).start v) (window_sum u k)

  pub arrived_use : arrived N (enters u) v k
      ≡ only (link N u.link).end v (u.rate * min u.departures (k - (link N u.link).transit - u.entry))
  arrived_use =
      gather_eq _ (count N) v (λ e q.
      sum_eq (k - (link N e).transit) (λ s r. enters_only u e s) ∙ only_sum u.link e (window u) (k - (link N e).transit))
      ∙ gather_one _ (count N) u.link (λ e. sum (window u) (k - (link N e).transit)) v p
      ∙ ap (only (link N u.link).end v) (window_sum u (k - (link N u.link).transit))

-- ---- entering, load

pub entering_append : (us ws : List Use) (e s : ℕ) → entering (us ++ ws) e s ≡ entering us e s + entering ws e s
entering_append [] ws e s = omega arith
entering_append (u ∷ us) ws e s = omega (arith, entering_append us ws e s)

pub load_none : (N : Network) (e s : ℕ) → load N [] e s ≡ 0
unfolding load
load_none N e s = refl

pub load_cons : (N : Network) (r : Row) (rs : List Row) (e s : ℕ) → load N (r ∷ rs) e s ≡ entering (uses_of N r) e s + load N rs e s
unfolding load
load_cons N r rs e s = entering_append (uses_of N r) (all_uses N rs) e s

pub load_append : (N : Network) (rs qs : List Row) (e s : ℕ) → load N (rs ++ qs) e s ≡ load N rs e s + load N qs e s
unfolding load
load_append N [] qs e s = omega arith
load_append N (r ∷ rs) qs e s =
    omega (
      arith,
      entering_append (uses_of N r) (all_uses N (rs ++ qs)) e s,
      entering_append (uses_of N r) (all_uses N rs) e s,
      load_append N rs qs e s,
    )
