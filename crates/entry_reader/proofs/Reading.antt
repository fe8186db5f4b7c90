-- Reading an entry at a position of a log: what was read, stamp and numbers, each where it was accepted. Assumes nothing.
use Rattle.std.proofs.Common.{◌≡◌, ℕ, ◌+◌, ◌-◌, ◌%◌, ◌^◌, ◌<◌, ◌≤◌, ltb, leb, List, length, get_or, take, drop, Ok, Err, sym, ◌∙◌, arith, w32, length-drop, take-append-drop, drop-drop, le-leb, le-ltb, lt-ltb}
use borrow.Author.Tests.{lt-leb}
use Rattle.std.specs.Int.{from_le_bytes}
use Rattle.limits.specs.Limits.{most_log_blocks, far_stamp, latest_logged_slot}
use Rattle.refusals.specs.declared.Refusal.TheVariants.{LogEntry, LogDistance, LogSlot}
use Rattle.numbers.specs.declared.Part.{Part}
use Rattle.numbers.specs.Field.{refused, and_then}
use Rattle.numbers.specs.Numbered.{by_number}
use Rattle.numbers.specs.Position.{field_answer}
use Rattle.numbers.proofs.Fields.{ReadAt, field_read}
use Rattle.numbers.proofs.Many.{Proper, then_proper, test_proper, field_proper, behind_same}
use Rattle.numbers.proofs.Parts.{PartRead, part_read, answer_refused, answer_accepted}
use Rattle.logs.specs.declared.Stamped.{Stamped}
use Rattle.logs.specs.Record.{entry_refusals, number, stamp_of, read_stamp, distance, grows, read_entry}
use Rattle.entry_reader.specs.Entry.{held_entry, entry_answer}

----- Stamps

-- what a wrapping subtraction answers is the distance
pub distance_wraps : (r was stamp : ℕ) → r < 2 ^ 32 → was < 2 ^ 32 → (r + was) % 2 ^ 32 ≡ stamp → r ≡ distance was stamp
unfolding distance
distance_wraps r was stamp p q e = omega arith

module _ (s : List ℕ) (at : ℕ) where
  pub stamp_short : length (drop at s) < 4 → Err LogEntry ≡ field_answer (length s) (read_stamp (drop at s))
  unfolding read_stamp
  stamp_short l = answer_refused (λ n. n) _ _ _ (rw (lt-ltb (length (drop at s)) 4 l))

  -- the value of four octets
  value_of : (four : List ℕ) → ((i : ℕ) → i < 4 → get_or four i 0 ≡ get_or (drop at s) i 0) → from_le_bytes w32 four ≡ stamp_of (drop at s)
  value_of four h = omega (arith, h 0 (omega arith), h 1 (omega arith), h 2 (omega arith), h 3 (omega arith))

  pub stamp_read : (four : List ℕ) (n : ℕ) → 4 ≤ length (drop at s) → ((i : ℕ) → i < 4 → get_or four i 0 ≡ get_or (drop at s) i 0)
      → n ≡ from_le_bytes w32 four → Ok (record { value = n; next = at + 4 }) ≡ field_answer (length s) (read_stamp (drop at s))
  unfolding read_stamp
  stamp_read four n l h e =
      let z : n ≡ stamp_of (drop at s) = e ∙ value_of four h in
      answer_accepted (λ n. n) s _ n (at + 4)
      (rw (le-ltb (length (drop at s)) 4 l, drop-drop 4 at s, z)) (omega (arith, length-drop at s))

pub stamp_proper : (s : List ℕ) → Proper s (read_stamp s)
unfolding read_stamp
stamp_proper s = test_proper s (ltb (length s) 4) LogEntry _ (record { front = take 4 s; split = sym (take-append-drop 4 s) })

-- an answer that is a part has read it
pub stamp_part : (s : List ℕ) (at : ℕ) (r : Part ℕ) → at ≤ length s → Ok r ≡ field_answer (length s) (read_stamp (drop at s))
    → PartRead s (read_stamp (drop at s)) r.value r.next
stamp_part s at r l e =
    let h = part_read (λ n. n) s at (read_stamp (drop at s)) r e l (stamp_proper (drop at s)) in
    rw h.held h.read

----- An entry

pub number_read : (high : ℕ) (s : List ℕ) (at : ℕ) (f : Part ℕ) → Ok f ≡ field_answer (length s) (number 0 high (drop at s))
    → ReadAt entry_refusals 0 high s at f.value f.next
number_read high = field_read entry_refusals 0 high

pub entry_proper : (links i was slot : ℕ) (s : List ℕ) → Proper s (read_entry links i was slot s)
unfolding read_entry
entry_proper links i was slot s =
    then_proper s _ _ (stamp_proper s) λ stamp s.
    then_proper s _ _ (field_proper entry_refusals 0 (links - 1) s) λ link s.
    then_proper s _ _ (field_proper entry_refusals 0 most_log_blocks s) λ blocks s.
    test_proper s (leb far_stamp (grows i was stamp)) LogDistance _
    (test_proper s (ltb latest_logged_slot (slot + grows i was stamp)) LogSlot _ (behind_same s))

-- an answer that is a part has read it
pub entry_part : (links i was slot : ℕ) (s : List ℕ) (at : ℕ) (r : Part Stamped) → at ≤ length s
    → Ok r ≡ entry_answer (length s) (read_entry links i was slot (drop at s)) → PartRead s (read_entry links i was slot (drop at s)) r.value r.next
entry_part links i was slot s at r l e =
    let h = part_read held_entry s at (read_entry links i was slot (drop at s)) r e l (entry_proper links i was slot (drop at s)) in
    rw h.held h.read

-- an entry whose numbers are read may yet be refused for its distance or its slot, by these numbers
module _ (s : List ℕ) (at links i was slot stamp after-stamp : ℕ) (p : PartRead s (read_stamp (drop at s)) stamp after-stamp)
    (link after-link : ℕ) (l : ReadAt entry_refusals 0 (links - 1) s after-stamp link after-link)
    (blocks next : ℕ) (b : ReadAt entry_refusals 0 most_log_blocks s after-link blocks next)
    (later : ℕ) (e : later ≡ grows i was stamp) where
  pub stops_far : far_stamp ≤ later → by_number (read_entry links i was slot (drop at s)) ≡ refused 21
  unfolding read_entry and_then
  stops_far h = rw (p.accepts, l.accepts, b.accepts, ← e, le-leb far_stamp later h)

  pub stops_late : later < far_stamp → latest_logged_slot < slot + later → by_number (read_entry links i was slot (drop at s)) ≡ refused 22
  unfolding read_entry and_then
  stops_late near h = rw (p.accepts, l.accepts, b.accepts, ← e, lt-leb far_stamp later near, lt-ltb latest_logged_slot (slot + later) h)
