-- The digits of a number, three at a time from its end.
use Rattle.std.specs.Prelude.{List, [], ◌∷◌, Bool, cond, ℕ, ◌/◌, ◌%◌}
use Rattle.texts.specs.Decimal.{digit, decimal}

-- all three digits of a number below 1,000
abbrev pub three : ℕ → List ℕ
three n = digit (n / 100) ∷ digit (n / 10 % 10) ∷ digit (n % 10) ∷ []

-- a number's first triple has no leading zeros, every other has its three digits
abbrev pub triple : Bool → ℕ → List ℕ
triple first n = cond first (decimal n) (three n)
