-- A log's record: "per entry a stamp (four octets, least first, a slot counter modulo 4,294,967,296), a link number and a block count from
-- 0 to 10,000, both in the seven-bit groups"; and reading it, "entry by entry: 20 an entry is cut short, misspelled or out of limits, or is
-- the 4,097th; 21 its distance is 2,147,483,648 or more; 22 its slot is above 100,063,000".
use Rattle.std.specs.Prelude.{List, [], ◌∷◌, ◌++◌, cond, ℕ, zero, suc, ◌+◌, ◌-◌, ◌*◌, ◌%◌, length, get_or, drop, leb, ltb, eqb}
use Rattle.limits.specs.Limits.{most_log_entries, most_log_blocks, stamp_rollover, far_stamp, latest_logged_slot}
use Rattle.refusals.specs.declared.Refusal.{Refusal}
use Rattle.refusals.specs.declared.Refusal.TheVariants.{LogEntry, LogDistance, LogSlot}
use Rattle.numbers.specs.declared.Refusals.{Refusals}
use Rattle.numbers.specs.Field.{Parse, refused, accepted, and_then, field, complete}
use Rattle.logs.specs.declared.Entry.{Entry}
use Rattle.logs.specs.declared.Stamped.{Stamped}

-- a number of an entry is refused with 20, however it fails
abbrev pub entry_refusals : Refusals Refusal
entry_refusals = record { endless = LogEntry; ended = LogEntry; padded = LogEntry; outside = LogEntry }

abbrev pub number : ℕ → ℕ → List ℕ → Parse ℕ
number low high s = field entry_refusals low high s

-- "four octets, least first"
abbrev pub stamp_of : List ℕ → ℕ
stamp_of s = get_or s 0 0 + 256 * get_or s 1 0 + 65536 * get_or s 2 0 + 16777216 * get_or s 3 0

unfoldable pub read_stamp : List ℕ → Parse ℕ
read_stamp s = cond (ltb (length s) 4) (refused LogEntry) (accepted (stamp_of s) (drop 4 s))

-- from one stamp to the next, "across the counter's rollover"
unfoldable pub distance : ℕ → ℕ → ℕ
distance was stamp = (stamp + stamp_rollover - was) % stamp_rollover

-- by how much the entry that has i entries before it is later than the last of them, whose stamp was `was`: "the first entry is slot 0,
-- and an entry's slot grows by its stamp's distance from the one before"
unfoldable pub grows : ℕ → ℕ → ℕ → ℕ
grows zero was stamp = 0
grows (suc i) was stamp = distance was stamp

-- the entry that has i entries before it, the last of them with the stamp `was` and in the slot `slot`
unfoldable pub read_entry : ℕ → ℕ → ℕ → ℕ → List ℕ → Parse Stamped
read_entry links i was slot s =
    and_then (read_stamp s) λ stamp s.
    and_then (number 0 (links - 1) s) λ link s.
    and_then (number 0 most_log_blocks s) λ blocks s.
    cond (leb far_stamp (grows i was stamp)) (refused LogDistance)
    (cond (ltb latest_logged_slot (slot + grows i was stamp)) (refused LogSlot)
    (accepted (record { stamp = stamp; entry = record { link = link; slot = slot + grows i was stamp; blocks = blocks } }) s))

-- entries up to the record's end, of which there may be `room` more, behind those read before
unfoldable pub read_entries : ℕ → ℕ → ℕ → ℕ → List ℕ → List Entry → Parse (List Entry)
read_entries zero links was slot s before = complete LogEntry before s
read_entries (suc room) links was slot s before =
    cond (eqb (length s) 0) (accepted before s)
    (and_then (read_entry links (length before) was slot s) λ e s.
    read_entries room links e.stamp e.entry.slot s (before ++ (e.entry ∷ [])))

-- the log of a network with so many links
unfoldable pub read_log : ℕ → List ℕ → Parse (List Entry)
read_log links s = read_entries most_log_entries links 0 0 s []
