-- The clock the other way round, for who makes plans: no promise names it.
use Rattle.std.specs.Prelude.{ℕ}

-- the horizon of which as many slots count
unfoldable pub spanning : ℕ → ℕ
spanning slots = slots
