-- The octets of a log and its entries, both ways: stamps are a slot counter modulo 4,294,967,296 that may stand anywhere in slot 0. Entries
-- written so are read, up to 4,096 of them, and what was read was written so. By recursion over the entries. Assumes nothing.
use mathlib.Core.Path.{◌≡◌, refl, sym, ap, subst, ◌∙◌}
use mathlib.Core.Logic.{inl, inr}
use mathlib.Core.List.{List, [], ◌∷◌, ◌++◌, append_assoc, append-nil}
use Prim.Native.Nat.{ℕ, zero, suc, ◌+◌, ◌-◌, ◌*◌, ◌/◌, ◌%◌, ◌≤◌, ◌<◌}
use native.Mathlib.Omega.{arith}
use lib.ListN.{length, drop, length-append}
use lib.Dec.{leb, ltb, eqb}
use borrow.Author.Tests.{le-ltb, lt-leb, ne_eqb, eqb-true, ltb-false}
use Rattle.limits.specs.Limits.{most_links, most_log_entries, most_log_blocks, stamp_rollover, far_stamp, latest_logged_slot}
use Rattle.refusals.specs.declared.Refusal.TheVariants.{LogEntry, LogDistance, LogSlot}
use Rattle.numbers.specs.Leb128.{groups, Octets, shortest}
use Rattle.numbers.specs.Field.{refused, accepted, and_then, complete}
use Rattle.numbers.specs.Numbered.{by_number}
use Rattle.numbers.proofs.Fields.{field_written, written_field, octets_rest}
use Rattle.numbers.proofs.Parses.{then_accepted, test_accepted, accepted_value, accepted_rest, nothing_left, complete_accepted}
use Rattle.logs.specs.declared.Entry.{Entry}
use Rattle.logs.specs.Log.{entry}
use Rattle.logs.specs.declared.Stamped.{Stamped}
use Rattle.logs.specs.Record.{entry_refusals, stamp_of, read_stamp, distance, grows, read_entry, read_entries, read_log}
use Rattle.logs.proofs.Reading.{Good, EntryRead, end_or_more}

-- ---- the record

-- "four octets, least first"
abbrev pub stamp_octets : ℕ → List ℕ
stamp_octets t = t % 256 ∷ t / 256 % 256 ∷ t / 65536 % 256 ∷ t / 16777216 ∷ []

-- "a slot counter modulo 4,294,967,296" that stood at c in slot 0
abbrev pub stamp_at : ℕ → ℕ → ℕ
stamp_at c slot = (c + slot) % stamp_rollover

-- "per entry a stamp .., a link number and a block count .., both in the seven-bit groups"
abbrev pub entry_on : ℕ → Entry → List ℕ → List ℕ
entry_on c e s = stamp_octets (stamp_at c e.slot) ++ (shortest groups e.link ++ (shortest groups e.blocks ++ s))

abbrev pub written : ℕ → List Entry → List ℕ
written c [] = []
written c (e ∷ es) = entry_on c e (written c es)

-- ---- an entry

pub stamp_written : (t : ℕ) (s : List ℕ) → t < stamp_rollover → read_stamp (stamp_octets t ++ s) ≡ accepted t s
unfolding read_stamp
stamp_written t s p =
    rw (le-ltb (length (stamp_octets t ++ s)) 4 (omega arith)) (ap (λ n. accepted n s) (omega arith))

-- the distance of two slots' stamps is that of the slots, wherever the counter stood
pub distance_counted : (c a b : ℕ) → a ≤ b → b - a < stamp_rollover → distance (stamp_at c a) (stamp_at c b) ≡ b - a
unfolding distance
distance_counted c a b p q = omega arith

grows_counted : (i c a b : ℕ) → 0 < i → a ≤ b → b < stamp_rollover → a + grows i (stamp_at c a) (stamp_at c b) ≡ b
unfolding grows
grows_counted zero c a b p q r = elim p [ ]
grows_counted (suc i) c a b p q r = omega (arith, distance_counted c a b q (omega arith))

pub entry_written : (links i was slot c : ℕ) (e : Entry) (s : List ℕ) → 1 ≤ links → links ≤ most_links → EntryRead links slot e
    → slot + grows i was (stamp_at c e.slot) ≡ e.slot
    → read_entry links i was slot (entry_on c e s) ≡ accepted (record { stamp = stamp_at c e.slot; entry = e }) s
unfolding read_entry and_then
entry_written links i was slot c e s p q r reached =
    rw (
      stamp_written (stamp_at c e.slot) (shortest groups e.link ++ (shortest groups e.blocks ++ s)) (omega arith),
      field_written entry_refusals 0 (links - 1) e.link (shortest groups e.blocks ++ s) (omega arith) r.known (omega (arith, r.known)),
      field_written entry_refusals 0 most_log_blocks e.blocks s (omega arith) r.small (omega (arith, r.small)),
      lt-leb far_stamp (grows i was (stamp_at c e.slot)) (omega (arith, r.early)),
      reached,
      le-ltb latest_logged_slot e.slot r.early,
    ) refl

-- ---- an entry that was read was written so

lowest : (n x rest : ℕ) → x < 256 → n ≡ x + 256 * rest → x ≡ n % 256
lowest n x rest p e = omega arith

stamp_was : (s : List ℕ) (t : ℕ) (rest : List ℕ) → Octets s → read_stamp s ≡ accepted t rest
    → (t ≡ stamp_of s) × (t < stamp_rollover) × (s ≡ stamp_octets t ++ rest)
unfolding read_stamp
stamp_was s t rest o h =
    let a = test_accepted (ltb (length s) 4) LogEntry (accepted (stamp_of s) (drop 4 s)) t rest h in
    split s o (ltb-false (length s) 4 a.0) (accepted_value a.1) (accepted_rest a.1)
  where
    split : (s : List ℕ) → Octets s → 4 ≤ length s → stamp_of s ≡ t → drop 4 s ≡ rest
        → (t ≡ stamp_of s) × (t < stamp_rollover) × (s ≡ stamp_octets t ++ rest)
    split (w ∷ x ∷ y ∷ z ∷ s) o p is r =
        let w-small : w < 256 = o 0 in
        let x-small : x < 256 = o 1 in
        let y-small : y < 256 = o 2 in
        let z-small : z < 256 = o 3 in
        let a : w ≡ t % 256 = omega arith in
        let b = lowest (t / 256) x (y + 256 * z) x-small (omega arith) in
        let c = lowest (t / 65536) y z y-small (omega arith) in
        let d : z ≡ t / 16777216 = omega arith in
        (sym is, omega arith, λ j. a j ∷ b j ∷ c j ∷ d j ∷ r j)
    split [] o p is r = absurd (omega arith)
    split (w ∷ []) o p is r = absurd (omega arith)
    split (w ∷ x ∷ []) o p is r = absurd (omega arith)
    split (w ∷ x ∷ y ∷ []) o p is r = absurd (omega arith)

-- the octets s are those of the stamped entry x, and of the rest behind it
record EntryWas (i was slot c : ℕ) (s : List ℕ) (x : Stamped) (rest : List ℕ) : Type 0 where
  pub octets : s ≡ entry_on c x.entry rest
  pub octets_left : Octets rest
  pub stamp_is : x.stamp ≡ stamp_at c x.entry.slot
  pub slot_is : x.entry.slot ≡ slot + grows i was (stamp_of s)

entry_was : (links i was slot c : ℕ) (s : List ℕ) (x : Stamped) (rest : List ℕ) → Octets s
    → (stamp_of s < stamp_rollover → stamp_at c (slot + grows i was (stamp_of s)) ≡ stamp_of s) → read_entry links i was slot s ≡ accepted x rest
    → EntryWas i was slot c s x rest
unfolding read_entry
entry_was links i was slot c s x rest o told h =
    let a = then_accepted _ _ x rest h in
    let b = then_accepted _ _ x rest a.3 in
    let d = then_accepted _ _ x rest b.3 in
    let f = test_accepted (leb far_stamp (grows i was a.0)) LogDistance _ x rest d.3 in
    let g = test_accepted (ltb latest_logged_slot (slot + grows i was a.0)) LogSlot _ x rest f.1 in
    let w : Stamped = record { stamp = a.0; entry = record { link = b.0; slot = slot + grows i was a.0; blocks = d.0 } } in
    let is : w ≡ x = accepted_value {a = w} {b = x} {s = d.1} {t = rest} g.1 in
    let left : d.1 ≡ rest = accepted_rest {a = w} {b = x} {s = d.1} {t = rest} g.1 in
    let stamp = stamp_was s a.0 a.1 o a.2 in
    let o₁ = octets_rest s (stamp_octets a.0) a.1 stamp.2 o in
    let link = written_field entry_refusals 0 (links - 1) a.1 b.0 b.1 o₁ b.2 in
    let o₂ = octets_rest a.1 (shortest groups b.0) b.1 link o₁ in
    let blocks = written_field entry_refusals 0 most_log_blocks b.1 d.0 d.1 o₂ d.2 in
    let after-stamp : a.1 ≡ shortest groups b.0 ++ (shortest groups d.0 ++ d.1) = link ∙ ap (λ y. shortest groups b.0 ++ y) blocks in
    let at : stamp_at c (slot + grows i was a.0) ≡ a.0 = rw stamp.0 (told (rw (← stamp.0) stamp.1)) in
    subst (λ (y : Stamped). EntryWas i was slot c s y rest) is
    (subst (EntryWas i was slot c s w) left
    (record {
      octets = stamp.2 ∙ (λ j. stamp_octets (sym at j) ++ after-stamp j);
      octets_left = octets_rest b.1 (shortest groups d.0) d.1 blocks o₂;
      stamp_is = sym at;
      slot_is = ap (λ t. slot + grows i was t) stamp.0;
    }))

-- ---- all entries

module _ (links c : ℕ) (some-links : 1 ≤ links) (few_links : links ≤ most_links) where
  -- the entries after the first
  good_after : (e : Entry) (es : List Entry) → Good links (e ∷ es) → Good links es
  good_after e es g = record {
    known = λ i p. g.known (suc i) (omega arith);
    small = λ i p. g.small (suc i) (omega arith);
    ordered = λ i j p q. g.ordered (suc i) (suc j) (omega arith) (omega arith);
    early = λ i p. g.early (suc i) (omega arith);
  }

  -- the entry after e is as much later as its stamp says
  next_reached : (before : List Entry) (e : Entry) (es : List Entry) → Good links (e ∷ es) → 0 < length es
      → e.slot + grows (length (before ++ (e ∷ []))) (stamp_at c e.slot) (stamp_at c (entry es 0).slot) ≡ (entry es 0).slot
  next_reached before e es g p =
      grows_counted (length (before ++ (e ∷ []))) c e.slot (entry es 0).slot (omega (arith, length-append before (e ∷ [])))
      (g.ordered 0 1 (omega arith) (omega arith)) (omega (arith, g.early 1 (omega arith)))

  entries_written : (room was slot : ℕ) (before es : List Entry) → Good links es
      → (0 < length es → slot + grows (length before) was (stamp_at c (entry es 0).slot) ≡ (entry es 0).slot)
      → (length es ≤ room → read_entries room links was slot (written c es) before ≡ accepted (before ++ es) [])
      × (room < length es → read_entries room links was slot (written c es) before ≡ refused LogEntry)
  unfolding read_entries complete and_then
  entries_written zero was slot before [] g reached = (λ p. ap (λ b. accepted b []) (sym (append-nil before)), λ p. absurd (omega arith))
  entries_written zero was slot before (e ∷ es) g reached =
      (λ p. absurd (omega arith), λ p. rw (ne_eqb (length (written c (e ∷ es))) 0 (λ z. absurd (omega arith))) refl)
  entries_written (suc room) was slot before [] g reached = (λ p. ap (λ b. accepted b []) (sym (append-nil before)), λ p. absurd (omega arith))
  entries_written (suc room) was slot before (e ∷ es) g reached =
      let at = reached (omega arith) in
      let first : EntryRead links slot e =
      record { known = g.known 0 (omega arith); small = g.small 0 (omega arith); later = omega (arith, at); early = g.early 0 (omega arith) } in
      let more = entries_written room (stamp_at c e.slot) e.slot (before ++ (e ∷ [])) es (good_after e es g) (next_reached before e es g) in
      rw (
        ne_eqb (length (written c (e ∷ es))) 0 (λ z. absurd (omega arith)),
        entry_written links (length before) was slot c e (written c es) some-links few_links first at,
        ← append_assoc before (e ∷ []) es,
      ) (λ p. more.0 (omega arith), λ p. more.1 (omega arith))

  -- a log that begins in slot 0 and keeps to the limits is read ..
  pub log_written : (es : List Entry) → Good links es → (entry es 0).slot ≡ 0 → length es ≤ 4096 → read_log links (written c es) ≡ accepted es []
  unfolding read_log grows
  log_written es g begins = (entries_written most_log_entries 0 0 [] es g (λ p. sym begins)).0

  -- .. unless it has a 4,097th entry
  pub log_too_long : (es : List Entry) → Good links es → (entry es 0).slot ≡ 0 → 4096 < length es → by_number (read_log links (written c es)) ≡ refused 20
  unfolding read_log grows
  log_too_long es g begins p = ap by_number ((entries_written most_log_entries 0 0 [] es g (λ p. sym begins)).1 p)

-- ---- and what was read was written so

grows_back : (i c slot was stamp : ℕ) → 0 < i → was ≡ stamp_at c slot → stamp < stamp_rollover → stamp_at c (slot + grows i was stamp) ≡ stamp
unfolding grows distance
grows_back zero c slot was stamp p e q = elim p [ ]
grows_back (suc i) c slot was stamp p e q = omega arith

-- the octets s, read behind entries, are those of the entries that they added
record WasWritten (c was slot : ℕ) (s : List ℕ) (before es : List Entry) : Type 0 where
  pub added : List Entry
  pub behind : es ≡ before ++ added
  pub octets : s ≡ written c added
  pub begins : 0 < length added → (entry added 0).slot ≡ slot + grows (length before) was (stamp_of s)

none_added : (c was slot : ℕ) (s : List ℕ) (before es : List Entry) → before ≡ es → s ≡ [] → WasWritten c was slot s before es
none_added c was slot s before es e none = record { added = []; behind = sym e ∙ sym (append-nil before); octets = none; begins = λ p. absurd (omega arith) }

entries_were : (links c room was slot : ℕ) (s : List ℕ) (before es : List Entry) (rest : List ℕ) → Octets s
    → (stamp_of s < stamp_rollover → stamp_at c (slot + grows (length before) was (stamp_of s)) ≡ stamp_of s)
    → read_entries room links was slot s before ≡ accepted es rest → WasWritten c was slot s before es
unfolding read_entries
entries_were links c zero was slot s before es rest o told h =
    let q = complete_accepted LogEntry before es s rest h in
    none_added c was slot s before es q.0 q.1
entries_were links c (suc room) was slot s before es rest o told h =
    elim (end_or_more (eqb (length s) 0) before s _ es rest h) [
      | inl q ↦ none_added c was slot s before es q.1 (nothing_left s (eqb-true (length s) 0 q.0))
      | inr q ↦
          let a = then_accepted _ _ es rest q in
          let e = a.0.entry in
          let w = entry_was links (length before) was slot c s a.0 a.1 o told a.2 in
          let more =
          entries_were links c room a.0.stamp e.slot a.1 (before ++ (e ∷ [])) es rest w.octets_left
          (grows_back (length (before ++ (e ∷ []))) c e.slot a.0.stamp (stamp_of a.1) (omega (arith, length-append before (e ∷ []))) w.stamp_is) a.3 in
          record {
            added = e ∷ more.added;
            behind = more.behind ∙ append_assoc before (e ∷ []) more.added;
            octets = w.octets ∙ ap (entry_on c e) more.octets;
            begins = λ p. w.slot_is;
          }
    ]

-- "per entry a stamp .., a link number and a block count": what is read as a log's entries is their octets and no others, by the counter
-- that the first stamp tells, and begins in slot 0
pub log_was : (links : ℕ) (s : List ℕ) (es : List Entry) (rest : List ℕ) → Octets s → read_log links s ≡ accepted es rest
    → (s ≡ written (stamp_of s) es) × ((entry es 0).slot ≡ 0)
unfolding read_log grows
log_was links s es rest o h =
    let w = entries_were links (stamp_of s) most_log_entries 0 0 s [] es rest o (λ p. omega arith) h in
    rw w.behind (w.octets, first w.added w.begins)
  where
    first : (added : List Entry) → (0 < length added → (entry added 0).slot ≡ 0) → (entry added 0).slot ≡ 0
    first [] b = refl
    first (e ∷ added) b = b (omega arith)
