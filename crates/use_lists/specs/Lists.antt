-- The uses of one link as a list of their numbers.
use Rattle.std.specs.Prelude.{◌≡◌, List, ℕ, ◌≤◌, ◌<◌, get_or, Option, Some, None}
use Rattle.flows.specs.Sums.{sum}
use Rattle.row_uses.specs.Uses.{chain}

-- the first n numbers are those of the chain that begins at k
pub record Listed (prev : List ℕ) (k : ℕ) (xs : List ℕ) (n : ℕ) : Type 0 where
  pub weighs : (w : ℕ → ℕ) → sum (λ i. w (get_or xs i 0)) n ≡ chain prev w k
  pub below : (i : ℕ) → i < n → get_or xs i 0 < k

-- chains fall
abbrev pub Falling : List ℕ → Type 0
Falling prev = (k : ℕ) → get_or prev k 0 ≤ k

-- the chain is listed where a number of numbers is answered
abbrev pub ListedIn : List ℕ → ℕ → ℕ → List ℕ → Option ℕ → Type 0
ListedIn prev k room xs (Some n) = (n ≤ room) × Listed prev k xs n
ListedIn prev k room xs None = Unit {0}

-- the first n numbers are the same
abbrev pub Copied : ℕ → List ℕ → List ℕ → Type 0
Copied n xs ys = (i : ℕ) → i < n → get_or ys i 0 ≡ get_or xs i 0
