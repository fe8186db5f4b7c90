-- For each entry of a log the first entry by whose slot its blocks have arrived. No promise names these.
use Rattle.std.specs.Prelude.{List, ℕ, ◌+◌, ◌≤◌, ◌<◌, length, get_or}
use Rattle.limits.specs.Limits.{most_links, most_transit, most_log_entries, latest_logged_slot}
use Rattle.flows.specs.declared.Link.{Link}
use Rattle.flows.specs.Network.{no_link}
use Rattle.logs.specs.declared.Entry.{Entry}
use Rattle.logs.specs.Columns.{nth, link_of, slot_of}

-- the slots of the entries never fall
abbrev pub Ordered : List Entry → Type 0
Ordered es = (i j : ℕ) → i ≤ j → j < length es → slot_of es i ≤ slot_of es j

-- r is the number of the first entry in a slot from this one on
pub record From (es : List Entry) (slot r : ℕ) : Type 0 where
  pub within : r ≤ length es
  pub below : (i : ℕ) → i < r → slot_of es i < slot
  pub above : (i : ℕ) → r ≤ i → i < length es → slot ≤ slot_of es i

-- the transit of an entry's link
abbrev pub transit_of : List Entry → List Link → ℕ → ℕ
transit_of es links i = (get_or links (link_of es i) no_link).transit

-- what finding these asks
pub record Sized (es : List Entry) (links : List Link) : Type 0 where
  pub few : length es ≤ most_log_entries
  pub known : (i : ℕ) → i < length es → link_of es i < most_links
  pub ordered : Ordered es
  pub early : (i : ℕ) → i < length es → slot_of es i ≤ latest_logged_slot
  pub short : (i : ℕ) → i < length es → transit_of es links i ≤ most_transit

-- for each entry the first by whose slot its blocks have arrived
abbrev pub Firsts : List Entry → List Link → List ℕ → Type 0
Firsts es links first = (i : ℕ) → i < length es → From es (slot_of es i + transit_of es links i) (nth first i)
