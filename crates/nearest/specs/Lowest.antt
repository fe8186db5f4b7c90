-- The least of a list's first numbers.
use Rattle.std.specs.Prelude.{◌≡◌, List, ℕ, ◌≤◌, ◌<◌, get_or}

pub record Lowest (xs : List ℕ) (n least : ℕ) : Type 0 where
  pub place : ℕ
  pub place_in : place < n
  pub stands : get_or xs place 0 ≡ least
  pub most : (v : ℕ) → v < n → least ≤ get_or xs v 0
