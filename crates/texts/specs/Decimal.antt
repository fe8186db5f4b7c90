-- A number as text: its decimal digits as octets, "printed numbers have no leading zeros".
use Rattle.std.specs.Prelude.{List, [], ◌∷◌, ◌++◌, cond, ℕ, zero, suc, ◌+◌, ◌/◌, ◌%◌, ltb}

-- the octet of a digit
abbrev pub digit : ℕ → ℕ
digit d = 48 + d

-- the digits of n, the last of them last, where k digits are enough for it
unfoldable pub digits : ℕ → ℕ → List ℕ
digits zero n = []
digits (suc k) n = cond (ltb n 10) (digit n ∷ []) (digits k (n / 10) ++ (digit (n % 10) ∷ []))

-- n + 1 digits are enough for n
unfoldable pub decimal : ℕ → List ℕ
decimal n = digits (suc n) n
