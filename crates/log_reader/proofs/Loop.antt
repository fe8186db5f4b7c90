-- The loop that reads a log: halfway, the entries read are in the struct, and what is to come from the position on is the whole answer.
-- Assumes nothing.
use mathlib.Core.Path.{◌≡◌, refl, sym, ap, ◌∙◌}
use mathlib.Core.List.{List, [], ◌∷◌, ◌++◌}
use mathlib.Core.Bool.{false}
use Prim.Native.Nat.{ℕ, zero, suc, ◌+◌, ◌-◌, ◌≤◌, ◌<◌}
use native.Mathlib.Numerals.{add-one}
use native.Mathlib.Omega.{arith}
use lib.ListN.{length, set, drop, length-append, length-drop}
use lib.Dec.{eqb}
use borrow.Author.Tests.{eq-eqb, ne_eqb}
use Rattle.std.specs.Prelude.{Option, Some, None, Ok, Err}
use Rattle.limits.specs.Limits.{most_log_entries, latest_logged_slot}
use Rattle.refusals.specs.declared.Refusal.{Refusal}
use Rattle.refusals.specs.declared.Refusal.TheVariants.{LogEntry}
use Rattle.numbers.specs.declared.Part.{Part}
use Rattle.numbers.specs.Field.{refused, accepted, and_then, complete}
use Rattle.numbers.specs.Numbered.{by_number}
use Rattle.numbers.proofs.Parts.{part_refused, set_next}
use Rattle.logs.specs.declared.Entry.{Entry}
use Rattle.logs.specs.declared.Stamped.{Stamped}
use Rattle.logs.specs.Log.{no_entry}
use Rattle.logs.specs.Record.{grows, read_entry, read_entries, read_log}
use Rattle.logs.proofs.Reading.{entry_read}
use Rattle.entry_reader.specs.Entry.{held_entry, entry_answer, before_of, was_of}
use Rattle.entry_reader.proofs.Reading.{entry_part}
use Rattle.log_reader.specs.Held.{filled, held, log_answer}

-- ---- reading at an end and at an entry

module _ (links was slot : ℕ) (s : List ℕ) (before : List Entry) where
  entries_end : (room : ℕ) → length s ≡ 0 → read_entries room links was slot s before ≡ accepted before s
  unfolding read_entries complete
  entries_end zero h = rw (eq-eqb (length s) 0 h)
  entries_end (suc room) h = rw (eq-eqb (length s) 0 h)

  module _ (some : 0 < length s) where
    goes_on : eqb (length s) 0 ≡ false
    goes_on = ne_eqb (length s) 0 (λ z. omega arith)

    entries_over : read_entries 0 links was slot s before ≡ refused LogEntry
    unfolding read_entries complete
    entries_over = rw goes_on

    entries_full : by_number (read_entries 0 links was slot s before) ≡ refused 20
    entries_full = ap by_number entries_over

    entries_refused : (room : ℕ) (e : Refusal) → read_entry links (length before) was slot s ≡ refused e
        → read_entries (suc room) links was slot s before ≡ refused e
    unfolding read_entries and_then
    entries_refused room e h = rw (goes_on, h)

    entries_more : (room : ℕ) (x : Stamped) (t : List ℕ) → read_entry links (length before) was slot s ≡ accepted x t
        → read_entries (suc room) links was slot s before ≡ read_entries room links x.stamp x.entry.slot t (before ++ (x.entry ∷ []))
    unfolding read_entries and_then
    entries_more room x t h = rw (goes_on, h)

-- ---- the loop

pub record Halfway (s : List ℕ) (links : ℕ) (entries : List Entry) (at i : ℕ) (was : Option ℕ) (slot : ℕ) : Type 0 where
  pub within : i ≤ most_log_entries
  pub inside : at ≤ length s
  pub early : slot ≤ latest_logged_slot
  pub before : List Entry
  pub size : length before ≡ i
  pub holds : entries ≡ filled before
  pub to_come : read_log links s ≡ read_entries (most_log_entries - i) links (was_of was) slot (drop at s) before
  -- of the entries before it counts only whether there are any
  pub counts : (t : List ℕ) → read_entry links i (was_of was) slot t ≡ read_entry links (before_of was) (was_of was) slot t

-- an entry behind others is read alike, however many they are
later_alike : (links i was slot : ℕ) (t : List ℕ) → read_entry links (suc i) was slot t ≡ read_entry links 1 was slot t
unfolding read_entry grows
later_alike links i was slot t = refl

-- one entry more
filled_more : (es : List Entry) (e : Entry) (i : ℕ) → length es ≡ i → i < most_log_entries → set (filled es) i e ≡ filled (es ++ (e ∷ []))
filled_more es e i q h =
    let m : most_log_entries - length (es ++ (e ∷ [])) ≡ most_log_entries - (i + 1) = rw length-append (omega arith) in
    rw m (set_next most_log_entries no_entry es e i (most_log_entries - length es) q h (omega arith))

module _ (s : List ℕ) (links : ℕ) where
  pub halfway_none : (entries : List Entry) → entries ≡ filled [] → Halfway s links entries 0 0 None 0
  unfolding read_log
  halfway_none entries e =
      record { within = omega arith; inside = omega arith; early = omega arith; before = []; size = refl; holds = e; to_come = refl; counts = λ t. refl }

  module _ (entries : List Entry) (at i : ℕ) (was : Option ℕ) (slot : ℕ) (h : Halfway s links entries at i was slot) where
    pub halfway_full : at < length s → most_log_entries ≤ i → Err LogEntry ≡ log_answer (read_log links s)
    unfolding log_answer
    halfway_full l f =
        let n : most_log_entries - i ≡ 0 = omega arith in
        let none : read_log links s ≡ refused LogEntry = h.to_come ∙ rw n (entries_over links (was_of was) slot (drop at s) h.before (omega (arith, length-drop at s))) in
        rw none refl

    pub halfway_done : length s ≤ at → Ok (record { count = i; entries = entries }) ≡ log_answer (read_log links s)
    unfolding log_answer held
    halfway_done l =
        let all : read_log links s ≡ accepted h.before (drop at s) =
        h.to_come ∙ entries_end links (was_of was) slot (drop at s) h.before (most_log_entries - i) (omega (arith, length-drop at s)) in
        rw all (λ j. Ok (record { count = sym h.size j; entries = h.holds j }))

    module _ (l : at < length s) (room : i < most_log_entries) where
      n : most_log_entries - i ≡ suc (most_log_entries - (i + 1))
      n = omega arith

      pub halfway_refused : (e : Refusal) → Err e ≡ entry_answer (length s) (read_entry links (before_of was) (was_of was) slot (drop at s))
          → Err e ≡ log_answer (read_log links s)
      unfolding log_answer
      halfway_refused e f =
          let w : read_entry links (length h.before) (was_of was) slot (drop at s) ≡ refused e =
          rw h.size (h.counts (drop at s) ∙ part_refused held_entry _ _ e f) in
          let none : read_log links s ≡ refused e =
          h.to_come ∙ rw n (entries_refused links (was_of was) slot (drop at s) h.before (omega (arith, length-drop at s)) (most_log_entries - (i + 1)) e w) in
          rw none refl

      pub halfway_next : (r : Part Stamped) → Ok r ≡ entry_answer (length s) (read_entry links (before_of was) (was_of was) slot (drop at s))
          → Halfway s links (set entries i r.value.entry) r.next (i + 1) (Some r.value.stamp) r.value.entry.slot
      halfway_next r e =
          let a = entry_part links (before_of was) (was_of was) slot s at r h.inside e in
          let w : read_entry links (length h.before) (was_of was) slot (drop at s) ≡ accepted r.value (drop r.next s) =
          rw h.size (h.counts (drop at s) ∙ a.accepts) in
          record {
            within = omega arith;
            inside = a.inside;
            early = (entry_read links (before_of was) (was_of was) slot (drop at s) r.value (drop r.next s) a.accepts).early;
            before = h.before ++ (r.value.entry ∷ []);
            size = rw length-append (omega (arith, h.size));
            holds = ap (λ (x : List Entry). set x i r.value.entry) h.holds ∙ filled_more h.before r.value.entry i h.size room;
            to_come =
                h.to_come
                ∙ rw n (entries_more links (was_of was) slot (drop at s) h.before (omega (arith, length-drop at s)) (most_log_entries - (i + 1)) r.value (drop r.next s) w);
            counts = λ t. rw add-one (later_alike links i r.value.stamp r.value.entry.slot t);
          }
