-- What reading a log has tested: of one entry, and so of all entries of a log that was read, by recursion over the entries that there may
-- still be. Assumes nothing.
use mathlib.Core.Path.{◌≡◌, refl, sym, ap, ◌∙◌}
use mathlib.Core.Logic.{◌⊎◌, inl, inr}
use mathlib.Core.List.{List, [], ◌∷◌, ◌++◌}
use mathlib.Core.Bool.{Bool, true, false, cond}
use Prim.Native.Nat.{ℕ, zero, suc, ◌+◌, ◌-◌, ◌≤◌, ◌<◌}
use native.Mathlib.Omega.{arith}
use native.Mathlib.Decide.{dec_lt}
use lib.ListN.{length, length-append, get_or-append}
use lib.Seq.{get_or_at}
use lib.Dec.{leb, ltb, eqb}
use borrow.Author.Tests.{eqb-true, ltb-false}
use Rattle.limits.specs.Limits.{most_log_entries, most_log_blocks, far_stamp, latest_logged_slot}
use Rattle.refusals.specs.declared.Refusal.TheVariants.{LogEntry, LogDistance, LogSlot}
use Rattle.numbers.specs.Field.{Parse, accepted}
use Rattle.numbers.proofs.Fields.{field_accepted}
use Rattle.numbers.proofs.Parses.{then_accepted, test_accepted, accepted_value, accepted_rest, nothing_left, complete_accepted}
use Rattle.logs.specs.declared.Entry.{Entry}
use Rattle.logs.specs.Log.{no_entry, entry}
use Rattle.logs.specs.declared.Stamped.{Stamped}
use Rattle.logs.specs.Record.{entry_refusals, grows, read_entry, read_entries, read_log}

-- ---- an entry

-- an entry that was read behind one in the slot `slot`
pub record EntryRead (links slot : ℕ) (e : Entry) : Type 0 where
  pub known : e.link ≤ links - 1
  pub small : e.blocks ≤ most_log_blocks
  pub later : slot ≤ e.slot
  pub early : e.slot ≤ latest_logged_slot

pub entry_read : (links i was slot : ℕ) (s : List ℕ) (x : Stamped) (rest : List ℕ) → read_entry links i was slot s ≡ accepted x rest
    → EntryRead links slot x.entry
unfolding read_entry
entry_read links i was slot s x rest h =
    let a = then_accepted _ _ x rest h in
    let b = then_accepted _ _ x rest a.3 in
    let c = then_accepted _ _ x rest b.3 in
    let d = test_accepted (leb far_stamp (grows i was a.0)) LogDistance _ x rest c.3 in
    let f = test_accepted (ltb latest_logged_slot (slot + grows i was a.0)) LogSlot _ x rest d.1 in
    let w : Stamped = record { stamp = a.0; entry = record { link = b.0; slot = slot + grows i was a.0; blocks = c.0 } } in
    let e : w ≡ x = accepted_value {a = w} {b = x} {s = c.1} {t = rest} f.1 in
    let link = field_accepted entry_refusals 0 (links - 1) a.1 b.0 b.1 b.2 in
    let blocks = field_accepted entry_refusals 0 most_log_blocks b.1 c.0 c.1 c.2 in
    let reached : x.entry.slot ≡ slot + grows i was a.0 = sym (ap (λ (y : Stamped). y.entry.slot) e) in
    record {
      known = omega (arith, link.high, ap (λ (y : Stamped). y.entry.link) e);
      small = omega (arith, blocks.high, ap (λ (y : Stamped). y.entry.blocks) e);
      later = omega (arith, reached);
      early = omega (arith, reached, ltb-false latest_logged_slot (slot + grows i was a.0) f.0);
    }

-- ---- all entries

pub record Good (links : ℕ) (es : List Entry) : Type 0 where
  pub known : (i : ℕ) → i < length es → (entry es i).link ≤ links - 1
  pub small : (i : ℕ) → i < length es → (entry es i).blocks ≤ most_log_blocks
  pub ordered : (i j : ℕ) → i ≤ j → j < length es → (entry es i).slot ≤ (entry es j).slot
  pub early : (i : ℕ) → i < length es → (entry es i).slot ≤ latest_logged_slot

module _ (es : List Entry) (e : Entry) where
  entry_old : (i : ℕ) → i < length es → entry (es ++ (e ∷ [])) i ≡ entry es i
  entry_old i p = get_or-append es (e ∷ []) no_entry i p

  entry_new : (i : ℕ) → i ≡ length es → entry (es ++ (e ∷ [])) i ≡ e
  entry_new i p = get_or_at es e [] no_entry i (sym p)

  length_more : length (es ++ (e ∷ [])) ≡ length es + 1
  length_more = length-append es (e ∷ [])

  good_more : (links slot : ℕ) → Good links es → ((i : ℕ) → i < length es → (entry es i).slot ≤ slot) → EntryRead links slot e
      → Good links (es ++ (e ∷ []))
  good_more links slot g past r = record {
    known = each (λ x. x.link ≤ links - 1) g.known r.known;
    small = each (λ x. x.blocks ≤ most_log_blocks) g.small r.small;
    early = each (λ x. x.slot ≤ latest_logged_slot) g.early r.early;
    ordered =
        λ i j p q. elim (dec_lt j (length es)) [
          | yes l ↦ rw (entry_old i (omega arith), entry_old j l) (g.ordered i j p l)
          | no l ↦
              let n : j ≡ length es = omega (arith, length_more) in
              rw (entry_new j n) (each (λ x. x.slot ≤ e.slot) (λ k t. omega (arith, past k t, r.later)) (omega arith) i (omega (arith, length_more)))
        ];
  }
    where
      each : (P : Entry → Type 0) → ((i : ℕ) → i < length es → P (entry es i)) → P e → (i : ℕ) → i < length (es ++ (e ∷ [])) → P (entry (es ++ (e ∷ [])) i)
      each P old new i p =
          elim (dec_lt i (length es)) [
            | yes l ↦ rw (entry_old i l) (old i l)
            | no l ↦ rw (entry_new i (omega (arith, length_more))) new
          ]

  past_more : (links slot : ℕ) → ((i : ℕ) → i < length es → (entry es i).slot ≤ slot) → EntryRead links slot e
      → (i : ℕ) → i < length (es ++ (e ∷ [])) → (entry (es ++ (e ∷ [])) i).slot ≤ e.slot
  past_more links slot past r i p =
      elim (dec_lt i (length es)) [
        | yes l ↦ rw (entry_old i l) (omega (arith, past i l, r.later))
        | no l ↦ rw (entry_new i (omega (arith, length_more))) (omega arith)
      ]

pub record WholeLog (links most : ℕ) (es : List Entry) (rest : List ℕ) : Type 0 where
  pub good : Good links es
  pub few : length es ≤ most
  pub nothing_left : rest ≡ []

pub end_or_more : (t : Bool) (before : List Entry) (s : List ℕ) (p : Parse (List Entry)) (es : List Entry) (rest : List ℕ)
    → cond t (accepted before s) p ≡ accepted es rest → ((t ≡ true) × (before ≡ es) × (s ≡ rest)) ⊎ (p ≡ accepted es rest)
end_or_more true before s p es rest h = inl (refl, accepted_value h, accepted_rest h)
end_or_more false before s p es rest h = inr h

entries_read : (room links was slot : ℕ) (s : List ℕ) (before es : List Entry) (rest : List ℕ) → Good links before
    → ((i : ℕ) → i < length before → (entry before i).slot ≤ slot) → read_entries room links was slot s before ≡ accepted es rest
    → WholeLog links (length before + room) es rest
unfolding read_entries
entries_read zero links was slot s before es rest g past h =
    let c = complete_accepted LogEntry before es s rest h in
    rw (← c.0) (record { good = g; few = omega arith; nothing_left = c.2 })
entries_read (suc room) links was slot s before es rest g past h =
    elim (end_or_more (eqb (length s) 0) before s _ es rest h) [
      | inl q ↦
          rw (← q.1) (record {
            good = g;
            few = omega arith;
            nothing_left = sym q.2 ∙ nothing_left s (eqb-true (length s) 0 q.0);
          })
      | inr q ↦
          let a = then_accepted _ _ es rest q in
          let e = a.0.entry in
          let r = entry_read links (length before) was slot s a.0 a.1 a.2 in
          let w =
          entries_read room links a.0.stamp e.slot a.1 (before ++ (e ∷ [])) es rest (good_more before e links slot g past r)
          (past_more before e links slot past r) a.3 in
          record { good = w.good; few = omega (arith, w.few, length_more before e); nothing_left = w.nothing_left }
    ]

pub log_read : (links : ℕ) (s : List ℕ) (es : List Entry) (rest : List ℕ) → read_log links s ≡ accepted es rest → WholeLog links most_log_entries es rest
unfolding read_log
log_read links s es rest h =
    entries_read most_log_entries links 0 0 s [] es rest
    (record { known = λ i p. absurd (omega arith); small = λ i p. absurd (omega arith); ordered = λ i j p q. absurd (omega arith); early = λ i p. absurd (omega arith) })
    (λ i p. absurd (omega arith)) h
