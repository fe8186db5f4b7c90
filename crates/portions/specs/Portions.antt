-- What is sent over a route of what is owed, and what is owed still.
use Rattle.std.specs.Prelude.{◌≡◌, ℕ, ◌+◌, ◌*◌, ◌≤◌, ◌<◌}
use Rattle.portions.specs.declared.Portion.{Portion}

-- how a chain with this many slots to depart in, at this rate, takes off what is owed: departures at the whole rate from slot 0 on,
-- the last blocks in the slot after them, and no block more; what is owed still, if all slots are used
pub record Apportioned (slots rate owed : ℕ) (s : Portion) : Type 0 where
  pub sums : rate * s.departures + s.last + s.owed ≡ owed
  pub in_time : s.departures ≤ slots
  pub last_in_time : 0 < s.last → s.departures < slots
  pub last_less : s.last ≤ rate
  pub slots_used : 0 < s.owed → s.departures ≡ slots
  pub none_last : 0 < s.owed → s.last ≡ 0
