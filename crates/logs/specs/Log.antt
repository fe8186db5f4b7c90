-- "Replay of the link log" (document 02): a log's entries, and the blocks that they say entered each link in each slot.
use Rattle.std.specs.Prelude.{List, ℕ, ◌-◌, length, get_or}
use Rattle.flows.specs.Sums.{sum, only}
use Rattle.logs.specs.declared.Entry.{Entry}

-- what stands at a number that is no entry's
abbrev pub no_entry : Entry
no_entry = record { link = 0; slot = 0; blocks = 0 }

-- the entry of a number, from 0 in the log's order
abbrev pub entry : List Entry → ℕ → Entry
entry es i = get_or es i no_entry

-- the blocks that entered link e in slot s: "entries for one link and slot are added up"
unfoldable pub logged : List Entry → ℕ → ℕ → ℕ
logged es e s = sum (λ i. only (entry es i).link e (only (entry es i).slot s (entry es i).blocks)) (length es)

-- "the last slot logged": the last entry's, whatever its blocks; 0 in an empty log
unfoldable pub last_slot : List Entry → ℕ
last_slot es = (entry es (length es - 1)).slot
