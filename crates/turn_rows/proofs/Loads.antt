-- What the rows of a turn put into a link: the last blocks leave in the slot after the departures at the whole rate, so on every link
-- the two follow each other, and no slot has more than the rate for each use. Assumes nothing.
use mathlib.Core.Path.{◌≡◌, refl, ap}
use mathlib.Core.List.{List, [], ◌∷◌}
use Prim.Native.Nat.{ℕ, zero, suc, ◌+◌, ◌*◌, ◌≤◌, ◌<◌, zero-le, min}
use native.Mathlib.Nat.{mul-zero, mul-one}
use native.Mathlib.Omega.{arith}
use native.Mathlib.Decide.{dec_lt}
use lib.ListN.{length, length-append}
use Rattle.flows.specs.Lists.{All}
use Rattle.flows.specs.Sums.{only}
use Rattle.flows.specs.Network.{Network, link}
use Rattle.flows.specs.Rows.{Row, Use, uses_from, uses_of, enters, entering, load, total}
use Rattle.flows.proofs.Sums.{only_same}
use Rattle.flows.proofs.Uses.{enters_le, enters_pos, load_none, load_cons, load_append}
use Rattle.flows.proofs.Lists.{all_append}
use Rattle.flows.proofs.Rows.{total_append}
use Rattle.statics.specs.Reach.{uses}
use Rattle.statics.proofs.Chains.{uses_cons}
use Rattle.turn_rows.specs.Rows.{kept, whole_row, last_row, turn_rows}

-- two uses of one link, the second of them after the last slot of the first
module _ (l rate departures last : ℕ) (less : last ≤ rate) (e s : ℕ) where
  follow : (p q : ℕ) → q ≡ p + departures
      → enters (record { link = l; entry = p; rate = rate; departures = departures }) e s
      + enters (record { link = l; entry = q; rate = last; departures = 1 }) e s ≤ only l e rate
  follow p q h =
      let u : Use = record { link = l; entry = p; rate = rate; departures = departures } in
      let w : Use = record { link = l; entry = q; rate = last; departures = 1 } in
      elim (dec_lt 0 (enters u e s)) [
        | yes i ↦
            let a = enters_pos u e s i in
            elim (dec_lt 0 (enters w e s)) [
              | yes j ↦ absurd (omega (arith, a.1.until, (enters_pos w e s j).1.from))
              | no j ↦ omega (arith, enters_le u e s, ap (λ (t : ℕ). only t e rate) a.0, only_same e rate)
            ]
        | no i ↦ elim (dec_lt 0 (enters w e s)) [
          | yes j ↦ omega (arith, enters_le w e s, ap (λ (t : ℕ). only t e rate) (enters_pos w e s j).0, only_same e rate)
          | no j ↦ omega arith
        ]
      ]

-- the same along a chain
module _ (N : Network) (rate departures last : ℕ) (less : last ≤ rate) (e s : ℕ) where
  chains_follow : (es : List ℕ) (p q : ℕ) → q ≡ p + departures
      → entering (uses_from N rate departures p es) e s + entering (uses_from N last 1 q es) e s ≤ uses es e * rate
  chains_follow [] p q h = zero-le
  chains_follow (l ∷ es) p q h =
      let τ : ℕ = (link N l).transit in
      omega (
        arith,
        chains_follow es (p + τ) (q + τ) (omega arith),
        follow l rate departures last less e s p q h,
        uses_cons l es e rate,
      )

-- ---- rows that are left out if they have none

kept_all : (P : Row → Type 0) (d : ℕ) (r : Row) → (0 < d → P r) → All P (kept d r)
kept_all P zero r h = tt
kept_all P (suc d) r h = (h (omega arith), tt)

kept_length : (d : ℕ) (r : Row) → length (kept d r) ≡ min 1 d
kept_length zero r = refl
kept_length (suc d) r = omega arith

kept_load : (N : Network) (d : ℕ) (r : Row) (e s : ℕ) → load N (kept d r) e s ≤ entering (uses_of N r) e s
kept_load N zero r e s = omega (arith, load_none N e s)
kept_load N (suc d) r e s = omega (arith, load_cons N r [] e s, load_none N e s)

whole_total : (N : Network) (es : List ℕ) (rate departures : ℕ) → total (kept departures (whole_row N es rate departures)) ≡ rate * departures
whole_total N es rate zero = rw mul-zero refl
whole_total N es rate (suc d) = omega arith

last_total : (N : Network) (es : List ℕ) (departures last : ℕ) → total (kept last (last_row N es departures last)) ≡ last
last_total N es departures zero = refl
last_total N es departures (suc n) = rw mul-one (omega arith)

module _ (N : Network) (es : List ℕ) (rate departures last : ℕ) where
  pub turn_load : last ≤ rate → (e s : ℕ) → load N (turn_rows N es rate departures last) e s ≤ uses es e * rate
  turn_load less e s =
      let r : Row = whole_row N es rate departures in
      let q : Row = last_row N es departures last in
      omega (
        arith,
        load_append N (kept departures r) (kept last q) e s,
        kept_load N departures r e s,
        kept_load N last q e s,
        chains_follow N rate departures last less e s es r.first q.first (omega arith),
      )

  pub turn_total : total (turn_rows N es rate departures last) ≡ rate * departures + last
  turn_total =
      omega (
        arith,
        total_append (kept departures (whole_row N es rate departures)) (kept last (last_row N es departures last)),
        whole_total N es rate departures,
        last_total N es departures last,
      )

  pub turn_length : length (turn_rows N es rate departures last) ≡ min 1 departures + min 1 last
  turn_length =
      let r : Row = whole_row N es rate departures in
      let q : Row = last_row N es departures last in
      omega (arith, length-append (kept departures r) (kept last q), kept_length departures r, kept_length last q)

  pub turn_all : (P : Row → Type 0) → (0 < departures → P (whole_row N es rate departures)) → (0 < last → P (last_row N es departures last))
      → All P (turn_rows N es rate departures last)
  turn_all P whole rest =
      all_append P (kept departures (whole_row N es rate departures)) (kept last (last_row N es departures last))
      (kept_all P departures (whole_row N es rate departures) whole)
      (kept_all P last (last_row N es departures last) rest)
