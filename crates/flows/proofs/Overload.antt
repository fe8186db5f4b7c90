-- A link that is overloaded in some slot is overloaded in the slot in which some use of it begins: of the uses of the link that
-- enter it in that slot take the one that began last, and all of them enter the link then. Assumes nothing.
use mathlib.Core.Path.{◌≡◌, refl}
use mathlib.Core.Logic.{◌↔◌}
use mathlib.Core.Bool.{true, false}
use mathlib.Core.List.{List, [], ◌∷◌}
use Prim.Native.Nat.{ℕ, suc, ◌≤◌, ◌<◌, zero-le}
use native.Mathlib.Nat.{le_refl}
use native.Mathlib.Omega.{arith}
use native.Mathlib.Decide.{dec_le, dec_lt}
use lib.ListN.{length, get_or}
use lib.Dec.{T, ltb, ltb→lt, lt→ltb}
use Rattle.flows.specs.Sums.{sum, some}
use Rattle.flows.specs.Network.{Network, link, count}
use Rattle.flows.specs.Rows.{Row, ends, Use, all_uses, enters, entering, load, EndedBy}
use Rattle.flows.specs.Plan.{quiet, overloaded}
use Rattle.flows.proofs.Sums.{sum_cons, some_at, some_of, test_true, test_false}
use Rattle.flows.proofs.Uses.{Active, enters_le, enters_in, enters_pos}
use Rattle.flows.proofs.Lists.{all_map}
use Rattle.flows.proofs.Rows.{rows_inside}

-- what stands at a number that is no use's
abbrev pub no_use : Use
no_use = record { link = 0; entry = 0; rate = 0; departures = 0 }

-- the use of a number
abbrev pub use_at : List Use → ℕ → Use
use_at us i = get_or us i no_use

-- what uses put into a link, as a sum over their numbers
pub entering_sum : (us : List Use) (e s : ℕ) → entering us e s ≡ sum (λ i. enters (use_at us i) e s) (length us)
entering_sum [] e s = refl
entering_sum (u ∷ us) e s = omega (arith, entering_sum us e s, sum_cons (λ i. enters (use_at (u ∷ us) i) e s) (length us))

-- ---- the use that began last

-- of the uses that enter the link e in slot s none began after slot m
abbrev Begun : List Use → ℕ → ℕ → ℕ → Type 0
Begun [] e s m = Unit {0}
Begun (u ∷ us) e s m = (0 < enters u e s → u.entry ≤ m) × Begun us e s m

module _ (e s : ℕ) where
  begun_none : (us : List Use) (m : ℕ) → (0 < entering us e s → ⊥) → Begun us e s m
  begun_none [] m n = tt
  begun_none (u ∷ us) m n = (λ h. absurd (n (omega arith)), begun_none us m (λ h. n (omega arith)))

  begun_later : (us : List Use) (m n : ℕ) → m ≤ n → Begun us e s m → Begun us e s n
  begun_later [] m n p b = tt
  begun_later (u ∷ us) m n p b = (λ h. omega (arith, b.0 h), begun_later us m n p b.1)

  -- then all that enter it in slot s enter it in slot m too
  begun_enter : (us : List Use) (m : ℕ) → m ≤ s → Begun us e s m → entering us e s ≤ entering us e m
  begun_enter [] m p b = zero-le
  begun_enter (u ∷ us) m p b =
      let rest = begun_enter us m p b.1 in
      elim (dec_lt 0 (enters u e s)) [
        | no h ↦ omega arith
        | yes h ↦
            let r = enters_pos u e s h in
            let here : Active u m = record { from = b.0 h; until = omega (arith, r.1.until) } in
            omega (arith, enters_in u e m r.0 here, enters_le u e s)
      ]

  record Last (us : List Use) : Type 0 where
    number : ℕ
    below : number < length us
    link_is : (use_at us number).link ≡ e
    active : Active (use_at us number) s
    begun : Begun us e s (use_at us number).entry

  last : (us : List Use) → 0 < entering us e s → Last us
  last [] p = absurd (omega arith)
  last (u ∷ us) p =
      let first : (0 < enters u e s) → Begun us e s u.entry → Last (u ∷ us) =
      λ h b. let r = enters_pos u e s h in
      record { number = 0; below = omega arith; link_is = r.0; active = r.1; begun = (λ h₁. le_refl _, b) } in
      let later : (r : Last us) → (0 < enters u e s → u.entry ≤ (use_at us r.number).entry) → Last (u ∷ us) =
      λ r q. record {
        number = suc r.number;
        below = omega (arith, r.below);
        link_is = r.link_is;
        active = r.active;
        begun = (q, r.begun);
      } in
      elim (dec_lt 0 (entering us e s)) [
        | no n ↦ first (omega arith) (begun_none us u.entry n)
        | yes q ↦
            let r = last us q in
            elim (dec_lt 0 (enters u e s)) [
              | no n ↦ later r (λ h. absurd (n h))
              | yes h ↦ elim (dec_le (use_at us r.number).entry u.entry) [
                | yes l ↦ first h (begun_later us _ u.entry l r.begun)
                | no l ↦ later r (λ h₁. omega arith)
              ]
            ]
      ]

-- ---- overloaded in some slot, and in the slot in which some use begins

-- a use of the link e in whose entry slot at least as much enters e as in slot s
pub record Peak (us : List Use) (e s : ℕ) : Type 0 where
  pub number : ℕ
  pub below : number < length us
  pub link_is : (use_at us number).link ≡ e
  pub most : entering us e s ≤ entering us e (use_at us number).entry

pub peak : (us : List Use) (e s : ℕ) → 0 < entering us e s → Peak us e s
peak us e s p =
    let l = last e s us p in
    record {
      number = l.number;
      below = l.below;
      link_is = l.link_is;
      most = begun_enter e s us (use_at us l.number).entry l.active.from l.begun;
    }

-- a use in whose entry slot its link, one of the network's, takes in more than its capacity
pub record EntryOver (N : Network) (us : List Use) : Type 0 where
  pub number : ℕ
  pub below : number < length us
  pub is_link : (use_at us number).link < count N
  pub over : (link N (use_at us number).link).capacity < entering us (use_at us number).link (use_at us number).entry

-- there is none
abbrev pub EntriesFit : Network → List Use → Type 0
EntriesFit N us =
    (i : ℕ) → i < length us → (use_at us i).link < count N
    → entering us (use_at us i).link (use_at us i).entry ≤ (link N (use_at us i).link).capacity

pub entry_over : (N : Network) (us : List Use) (e s : ℕ) → e < count N → (link N e).capacity < entering us e s → EntryOver N us
entry_over N us e s p q =
    let k = peak us e s (omega arith) in
    let over : (link N e).capacity < entering us e (use_at us k.number).entry = omega (arith, k.most) in
    record { number = k.number; below = k.below; is_link = rw k.link_is p; over = rw k.link_is over }

pub entries_fit : (N : Network) (us : List Use) → EntriesFit N us → (e s : ℕ) → e < count N → entering us e s ≤ (link N e).capacity
entries_fit N us fit e s p =
    elim (dec_lt (link N e).capacity (entering us e s)) [
      | no n ↦ omega arith
      | yes q ↦ let o = entry_over N us e s p q in absurd (omega (arith, o.over, fit o.number o.below o.is_link))
    ]

-- ---- the test of the verdict

-- "some link takes in more than its capacity in some slot"
pub record Overloads (N : Network) (rs : List Row) : Type 0 where
  pub at_link : ℕ
  pub at_slot : ℕ
  pub is_link : at_link < count N
  pub over : (link N at_link).capacity < load N rs at_link at_slot

-- every row has ended by the slot `quiet`
quiet_ended : (N : Network) (rs : List Row) → EndedBy N (quiet N rs) rs
quiet_ended N [] = tt
quiet_ended N (r ∷ rs) = (
  omega arith,
  all_map (λ q. ends N q ≤ quiet N rs) (λ q. ends N q ≤ quiet N (r ∷ rs)) rs (λ q h. omega arith) (quiet_ended N rs),
)

module _ (N : Network) (rs : List Row) where
  pub overloaded_is : T (overloaded N rs) → Overloads N rs
  unfolding overloaded
  overloaded_is t =
      let r = some_at (λ e. some (λ s. ltb (link N e).capacity (load N rs e s)) (quiet N rs)) (count N) t in
      let q = some_at (λ s. ltb (link N r.0).capacity (load N rs r.0 s)) (quiet N rs) r.2 in
      record { at_link = r.0; at_slot = q.0; is_link = r.1; over = ltb→lt _ _ q.2 }

  pub overloaded_of : Overloads N rs → T (overloaded N rs)
  unfolding overloaded
  overloaded_of o =
      let e : ℕ = o.at_link in
      let s : ℕ = o.at_slot in
      some_of (λ e. some (λ s. ltb (link N e).capacity (load N rs e s)) (quiet N rs)) (count N) e o.is_link
      (elim (dec_lt s (quiet N rs)) [
        | yes p ↦ some_of (λ s. ltb (link N e).capacity (load N rs e s)) (quiet N rs) s p (lt→ltb _ _ o.over)
        | no p ↦ absurd (omega (arith, o.over, rows_inside N (quiet N rs) rs (quiet_ended N rs) e s (omega arith)))
      ])

  -- some slot is one below `quiet`
  pub overloaded_iff : T (overloaded N rs) ↔ Overloads N rs
  overloaded_iff = (overloaded_is, overloaded_of)

  -- and one in which a use begins
  pub overloaded_entry : T (overloaded N rs) ↔ EntryOver N (all_uses N rs)
  unfolding load
  overloaded_entry = (
    λ t. let o = overloaded_is t in entry_over N (all_uses N rs) o.at_link o.at_slot o.is_link o.over,
    λ o. overloaded_of (record {
      at_link = (use_at (all_uses N rs) o.number).link;
      at_slot = (use_at (all_uses N rs) o.number).entry;
      is_link = o.is_link;
      over = o.over;
    }),
  )

  -- where the test fails no link takes in more than its capacity
  pub overloaded_not : overloaded N rs ≡ false → (e s : ℕ) → e < count N → load N rs e s ≤ (link N e).capacity
  overloaded_not n e s p =
      elim (dec_lt (link N e).capacity (load N rs e s)) [
        | yes h ↦ absurd (rw n at (overloaded_of (record { at_link = e; at_slot = s; is_link = p; over = h })))
        | no h ↦ omega arith
      ]

  -- what an examiner finds that looks at the entry slot of each use, in a loop over their numbers
  pub entry_over_test : EntryOver N (all_uses N rs) → overloaded N rs ≡ true
  entry_over_test o = test_true (overloaded N rs) (overloaded_entry.1 o)

  pub entries_fit_test : EntriesFit N (all_uses N rs) → overloaded N rs ≡ false
  entries_fit_test fit =
      test_false (overloaded N rs) (λ t.
      let o = overloaded_entry.0 t in
      omega (arith, o.over, fit o.number o.below o.is_link))
