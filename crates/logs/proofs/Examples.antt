-- Logs that tell readings apart, computed: stamps across the rollover, numbers at their limits and one above, entries of one slot added up,
-- a block sent too early, both faults, and a last entry without blocks. Assumes nothing.
use mathlib.Core.Path.{◌≡◌, refl}
use mathlib.Core.List.{[], ◌∷◌}
use Prim.Native.Nat.{ℕ}
use Rattle.numbers.specs.Field.{refused, accepted, and_then, limited, field, complete}
use Rattle.numbers.specs.Numbered.{by_number}
use Rattle.numbers.specs.Leb128.{read_groups, joined}
use Rattle.flows.specs.Sums.{only, gather}
use Rattle.flows.specs.Clock.{counting}
use Rattle.flows.specs.Network.{Network, link}
use Rattle.flows.specs.Flow.{delivered}
use Rattle.flows.specs.Figures.{link_of}
use Rattle.logs.specs.declared.Entry.{Entry}
use Rattle.logs.specs.Log.{logged, last_slot}
use Rattle.logs.specs.Finding.{overfull, oversends, oversent, finding, figure}
use Rattle.logs.specs.Record.{read_stamp, distance, grows, read_entry, read_entries, read_log}

-- ---- stamps

pub rollover : distance 4294967295 0 ≡ 1
unfolding distance
rollover = refl

-- FF FF FF FF, then 00 00 00 00: the second entry is in slot 1; the first is in slot 0 whatever its stamp
pub across : read_log 1 (255 ∷ 255 ∷ 255 ∷ 255 ∷ 0 ∷ 1 ∷ 0 ∷ 0 ∷ 0 ∷ 0 ∷ 0 ∷ 2 ∷ [])
    ≡ accepted (record { link = 0; slot = 0; blocks = 1 } ∷ record { link = 0; slot = 1; blocks = 2 } ∷ []) []
unfolding read_log read_entries read_entry read_stamp distance grows and_then limited field complete read_groups joined
across = refl

-- a distance of 2,147,483,648: 00 00 00 00, then 00 00 00 80
pub far : by_number (read_log 1 (0 ∷ 0 ∷ 0 ∷ 0 ∷ 0 ∷ 0 ∷ 0 ∷ 0 ∷ 0 ∷ 128 ∷ 0 ∷ 0 ∷ [])) ≡ refused 21
unfolding read_log read_entries read_entry read_stamp distance grows and_then limited field complete read_groups joined
far = refl

-- one slot less is not refused for its distance, but for its slot
pub near : by_number (read_log 1 (0 ∷ 0 ∷ 0 ∷ 0 ∷ 0 ∷ 0 ∷ 255 ∷ 255 ∷ 255 ∷ 127 ∷ 0 ∷ 0 ∷ [])) ≡ refused 22
unfolding read_log read_entries read_entry read_stamp distance grows and_then limited field complete read_groups joined
near = refl

-- slot 100,063,000: 00 00 00 00, then 18 D7 F6 05
pub latest : read_log 1 (0 ∷ 0 ∷ 0 ∷ 0 ∷ 0 ∷ 0 ∷ 24 ∷ 215 ∷ 246 ∷ 5 ∷ 0 ∷ 0 ∷ [])
    ≡ accepted (record { link = 0; slot = 0; blocks = 0 } ∷ record { link = 0; slot = 100063000; blocks = 0 } ∷ []) []
unfolding read_log read_entries read_entry read_stamp distance grows and_then limited field complete read_groups joined
latest = refl

-- slot 100,063,001: 00 00 00 00, then 19 D7 F6 05
pub late : by_number (read_log 1 (0 ∷ 0 ∷ 0 ∷ 0 ∷ 0 ∷ 0 ∷ 25 ∷ 215 ∷ 246 ∷ 5 ∷ 0 ∷ 0 ∷ [])) ≡ refused 22
unfolding read_log read_entries read_entry read_stamp distance grows and_then limited field complete read_groups joined
late = refl

-- ---- link numbers and block counts

-- the last of 256 links, and 10,000 blocks
pub largest : read_log 256 (0 ∷ 0 ∷ 0 ∷ 0 ∷ 255 ∷ 1 ∷ 144 ∷ 78 ∷ []) ≡ accepted (record { link = 255; slot = 0; blocks = 10000 } ∷ []) []
unfolding read_log read_entries read_entry read_stamp distance grows and_then limited field complete read_groups joined
largest = refl

-- link 256, and 10,001 blocks
pub no_link_lem : by_number (read_log 256 (0 ∷ 0 ∷ 0 ∷ 0 ∷ 128 ∷ 2 ∷ 0 ∷ [])) ≡ refused 20
unfolding read_log read_entries read_entry read_stamp distance grows and_then limited field complete read_groups joined
no_link_lem = refl

pub too_many_blocks : by_number (read_log 256 (0 ∷ 0 ∷ 0 ∷ 0 ∷ 0 ∷ 145 ∷ 78 ∷ [])) ≡ refused 20
unfolding read_log read_entries read_entry read_stamp distance grows and_then limited field complete read_groups joined
too_many_blocks = refl

-- cut short in its stamp and in its blocks; a number that is not in shortest form
pub cut_in_its_stamp : by_number (read_log 1 (0 ∷ 0 ∷ 0 ∷ [])) ≡ refused 20
unfolding read_log read_entries read_entry read_stamp distance grows and_then limited field complete read_groups joined
cut_in_its_stamp = refl

pub cut_in_its_blocks : by_number (read_log 1 (0 ∷ 0 ∷ 0 ∷ 0 ∷ 0 ∷ 144 ∷ [])) ≡ refused 20
unfolding read_log read_entries read_entry read_stamp distance grows and_then limited field complete read_groups joined
cut_in_its_blocks = refl

pub misspelled : by_number (read_log 1 (0 ∷ 0 ∷ 0 ∷ 0 ∷ 128 ∷ 0 ∷ 0 ∷ [])) ≡ refused 20
unfolding read_log read_entries read_entry read_stamp distance grows and_then limited field complete read_groups joined
misspelled = refl

-- an entry's own faults come before those of its slot: link 1 of one, at a distance of 2,147,483,648
pub link_first : by_number (read_log 1 (0 ∷ 0 ∷ 0 ∷ 0 ∷ 0 ∷ 0 ∷ 0 ∷ 0 ∷ 0 ∷ 128 ∷ 1 ∷ 0 ∷ [])) ≡ refused 20
unfolding read_log read_entries read_entry read_stamp distance grows and_then limited field complete read_groups joined
link_first = refl

-- ---- findings: two hops of transit 1 and capacity 1, one after the other

abbrev pub relay : Network
relay = record { places = 3; origin = 0; destination = 2; links = link_of 0 1 1 1 ∷ link_of 1 2 1 1 ∷ [] }

abbrev pub at : ℕ → ℕ → ℕ → Entry
at e s n = record { link = e; slot = s; blocks = n }

-- a block goes on in the slot in which it arrives; an entry without blocks makes slot 2 the last, in which it reaches the archive
pub kept : (finding relay (at 0 0 1 ∷ at 1 1 1 ∷ at 1 2 0 ∷ []) ≡ 0) × (figure relay (at 0 0 1 ∷ at 1 1 1 ∷ at 1 2 0 ∷ []) ≡ 1)
unfolding finding overfull oversent oversends figure logged last_slot only gather link delivered counting
kept = (refl, refl)

-- without that entry the block is still on its way
pub under_way : figure relay (at 0 0 1 ∷ at 1 1 1 ∷ []) ≡ 0
unfolding finding overfull oversent oversends figure logged last_slot only gather link delivered counting
under_way = refl

-- it goes on a slot too early
pub early : finding relay (at 0 0 1 ∷ at 1 0 1 ∷ at 0 2 0 ∷ []) ≡ 2
unfolding finding overfull oversent oversends logged last_slot only gather link
early = refl

-- two entries for one link and slot
pub added_up : finding relay (at 0 0 1 ∷ at 0 0 1 ∷ []) ≡ 1
unfolding finding overfull oversent oversends logged last_slot only gather link
added_up = refl

-- both faults
pub both : (finding relay (at 0 0 2 ∷ at 1 0 1 ∷ []) ≡ 1) × (figure relay (at 0 0 2 ∷ at 1 0 1 ∷ at 1 3 0 ∷ []) ≡ 0)
unfolding finding overfull oversent oversends figure logged last_slot only gather link delivered counting
both = (refl, refl)
