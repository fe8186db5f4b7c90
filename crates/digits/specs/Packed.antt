-- Packed decimal: "the three digits of its own index in packed decimal, four bits a digit".
use Rattle.std.specs.Prelude.{◌≡◌, List, ℕ, ◌+◌, ◌*◌, ◌/◌, ◌%◌, ◌<◌, get_or}

-- the hundreds, tens and ones of a number below 1,000, the ones in the lowest four bits
unfoldable pub packed_of : ℕ → ℕ
packed_of n = n / 100 * 256 + n / 10 % 10 * 16 + n % 10

-- the rule of "a table of 1,000 entries"
pub record Packs (t : List ℕ) : Type 0 where
  pub entry : (i : ℕ) → i < 1000 → get_or t i 0 ≡ packed_of i
