-- The clock: which slots of a horizon count for arrivals. "With horizon T the slots are 0 to T - 1", and a block that arrives in any of
-- them has arrived within the horizon. Whatever depends on this goes through `counting`.
use Rattle.std.specs.Prelude.{ℕ}

-- how many slots of the horizon T count: those from slot 0 on
unfoldable pub counting : ℕ → ℕ
counting T = T
