-- A log's entries by their numbers, as the code looks at them, and sums over them. No promise names these.
use Rattle.std.specs.Prelude.{List, cond, ℕ, ◌≤◌, ◌<◌, length, get_or, ltb}
use Rattle.limits.specs.Limits.{most_log_entries, most_log_blocks, latest_logged_slot}
use Rattle.flows.specs.Sums.{sum, only}
use Rattle.logs.specs.declared.Entry.{Entry}
use Rattle.logs.specs.Log.{entry}

-- the number at a place of a list
abbrev pub nth : List ℕ → ℕ → ℕ
nth xs i = get_or xs i 0

-- the link, the slot and the blocks of an entry
abbrev pub link_of : List Entry → ℕ → ℕ
link_of es i = (entry es i).link

abbrev pub slot_of : List Entry → ℕ → ℕ
slot_of es i = (entry es i).slot

abbrev pub blocks_of : List Entry → ℕ → ℕ
blocks_of es i = (entry es i).blocks

-- x if slot s is before slot k, else 0
unfoldable pub earlier : ℕ → ℕ → ℕ → ℕ
earlier s k x = cond (ltb s k) x 0

-- what the first n entries put at e in slot s: where they put it is L, when is S, how much is B
abbrev pub puts : (ℕ → ℕ) → (ℕ → ℕ) → (ℕ → ℕ) → ℕ → ℕ → ℕ → ℕ
puts L S B n e s = sum (λ i. only (L i) e (only (S i) s (B i))) n

-- the entries of a log that was read, for a network with so many links
pub record Given (links : ℕ) (es : List Entry) : Type 0 where
  pub few : length es ≤ most_log_entries
  pub known : (i : ℕ) → i < length es → link_of es i < links
  pub small : (i : ℕ) → i < length es → blocks_of es i ≤ most_log_blocks
  pub ordered : (i j : ℕ) → i ≤ j → j < length es → slot_of es i ≤ slot_of es j
  pub early : (i : ℕ) → i < length es → slot_of es i ≤ latest_logged_slot
