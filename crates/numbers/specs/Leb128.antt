-- "A number is unsigned LEB128: groups of seven bits, least first, the top bit of an octet set if another group follows", in
-- "shortest form: a last group of 0 is allowed only as the single group of the number 0". For a general count of groups k.
use Rattle.std.specs.Prelude.{List, [], ◌∷◌, ◌++◌, cond, ℕ, zero, suc, ◌+◌, ◌*◌, ◌/◌, ◌%◌, ◌<◌, length, get_or, take, drop, ltb}

-- "a number may have four groups": the one place of this number in the definitions
abbrev pub groups : ℕ
groups = 4

-- a list of octets, as a slice of u8 is one
abbrev pub Octets : List ℕ → Type 0
Octets s = (i : ℕ) → get_or s i 0 < 256

-- the shortest form of n, where k groups are enough for it
unfoldable pub shortest : ℕ → ℕ → List ℕ
shortest zero n = []
shortest (suc k) n = cond (ltb n 128) (n ∷ []) ((128 + n % 128) ∷ shortest k (n / 128))

-- what stands at the front of a list of octets: a number of at most k groups and the octets after it, or one of three failures
pub data Reading : Type 0 where
  endless : Reading
  ended : Reading
  padded : Reading
  is : ℕ → List ℕ → Reading

-- the octet b, which asks for another group, and what follows it: the groups after it must not make 0
unfoldable pub joined : ℕ → Reading → Reading
joined b endless = endless
joined b ended = ended
joined b padded = padded
joined b (is zero rest) = padded
joined b (is (suc v) rest) = is (b % 128 + 128 * suc v) rest

-- the octet after the k-th is asked for: endless; no octet where one is asked for: ended
unfoldable pub read_groups : ℕ → List ℕ → Reading
read_groups zero s = endless
read_groups (suc k) [] = ended
read_groups (suc k) (b ∷ s) = cond (ltb b 128) (is b s) (joined b (read_groups k s))

-- the octets of a list of numbers, one after another
unfoldable pub encode : List ℕ → List ℕ
encode [] = []
encode (n ∷ ns) = shortest groups n ++ encode ns

-- a buffer with the octets e written from its first octet on: "octets past the record keep their content"
abbrev pub over : List ℕ → List ℕ → List ℕ
over e buffer = e ++ drop (length e) buffer

-- a buffer with the octets e written from the position at on
unfoldable pub over_at : ℕ → List ℕ → List ℕ → List ℕ
over_at at e buffer = take at buffer ++ over e (drop at buffer)
