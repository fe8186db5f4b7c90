-- Core laws of numbers in groups: each way to read and to write one group, and that a number and its shortest form determine each
-- other, for any count of groups. Assumes nothing.
use mathlib.Core.Path.{◌≡◌, refl, sym, ap, ◌∙◌}
use mathlib.Core.List.{List, [], ◌∷◌, ◌++◌}
use Prim.Native.Nat.{ℕ, zero, suc, ◌+◌, ◌*◌, ◌/◌, ◌%◌, ◌^◌, ◌≤◌, ◌<◌}
use native.Mathlib.Nat.{pow-succ', one-le-pow}
use native.Mathlib.Omega.{arith}
use native.Mathlib.Decide.{dec_lt}
use lib.ListN.{length}
use borrow.Author.Tests.{lt-ltb, le-ltb}
pub use Rattle.numbers.proofs.Shortest.{shortest_last, shortest_more}
use Rattle.numbers.specs.Leb128.{Octets, shortest, Reading, endless, ended, padded, is, joined, read_groups}

-- one group more multiplies the count of numbers by 128
pub pow_more : (k : ℕ) → 128 ^ suc k ≡ 128 * 128 ^ k
pow_more k = pow-succ' 128 k

pub pow_pos : (k : ℕ) → 0 < 128 ^ k
pow_pos k = one-le-pow k 128 (omega arith)

----- Writing

-- a number that k groups hold has the same form where more are allowed
pub shortest_enough : (k n : ℕ) → n < 128 ^ suc k → shortest (suc (suc k)) n ≡ shortest (suc k) n
shortest_enough zero n h =
    let l : n < 128 = omega (arith, pow_more 0) in
    shortest_last 1 n l ∙ sym (shortest_last 0 n l)
shortest_enough (suc k) n h = elim (dec_lt n 128) [
  | yes l ↦ shortest_last (suc (suc k)) n l ∙ sym (shortest_last (suc k) n l)
  | no g ↦
      let m : 128 ≤ n = omega arith in
      let b : n / 128 < 128 ^ suc k = omega (arith, pow_more (suc k)) in
      shortest_more (suc (suc k)) n m ∙ ap (λ (r : List ℕ). (128 + n % 128) ∷ r) (shortest_enough k (n / 128) b) ∙ sym (shortest_more (suc k) n m)
]

-- so the groups after the first are a shortest form under the same limit
pub shortest_cons : (k n : ℕ) → 128 ≤ n → n < 128 ^ suc (suc k) → shortest (suc (suc k)) n ≡ (128 + n % 128) ∷ shortest (suc (suc k)) (n / 128)
shortest_cons k n h l =
    shortest_more (suc k) n h ∙ ap (λ (r : List ℕ). (128 + n % 128) ∷ r) (sym (shortest_enough k (n / 128) (omega (arith, pow_more (suc k)))))

-- a number that k groups hold has at most k octets, however many are allowed
pub length_shortest : (k g n : ℕ) → n < 128 ^ suc k → length (shortest g n) ≤ suc k
unfolding shortest
length_shortest k zero n h = omega arith
length_shortest zero (suc g) n h = omega (arith, ap length (shortest_last g n (omega (arith, pow_more 0))))
length_shortest (suc k) (suc g) n h = elim (dec_lt n 128) [
  | yes l ↦ omega (arith, ap length (shortest_last g n l))
  | no q ↦ omega (arith, ap length (shortest_more g n (omega arith)), length_shortest k g (n / 128) (omega (arith, pow_more (suc k))))
]

-- no form is empty
pub length_pos : (k n : ℕ) → 0 < length (shortest (suc k) n)
length_pos k n = elim (dec_lt n 128) [
  | yes l ↦ omega (arith, ap length (shortest_last k n l))
  | no q ↦ omega (arith, ap length (shortest_more k n (omega arith)))
]

----- Reading

pub read_last : (k b : ℕ) (s : List ℕ) → b < 128 → read_groups (suc k) (b ∷ s) ≡ is b s
unfolding read_groups
read_last k b s h = rw (lt-ltb b 128 h)

pub read_more : (k b : ℕ) (s : List ℕ) → 128 ≤ b → read_groups (suc k) (b ∷ s) ≡ joined b (read_groups k s)
unfolding read_groups
read_more k b s h = rw (le-ltb b 128 h)

pub joined_is : (b v : ℕ) (rest : List ℕ) → 0 < v → joined b (is v rest) ≡ is (b % 128 + 128 * v) rest
unfolding joined
joined_is b zero rest h = absurd (omega arith)
joined_is b (suc v) rest h = refl

-- what is known of a number that was read: it is one group, or a group before a number that is not 0
pub data Was (k : ℕ) : List ℕ → ℕ → List ℕ → Type 0 where
  one : (b : ℕ) (rest : List ℕ) → b < 128 → Was k (b ∷ rest) b rest
  more : (b v : ℕ) (s rest : List ℕ) → 128 ≤ b → 0 < v → read_groups k s ≡ is v rest → Was k (b ∷ s) (b % 128 + 128 * v) rest

was_joined : (k b : ℕ) (s : List ℕ) (r : Reading) (n : ℕ) (rest : List ℕ) → 128 ≤ b → read_groups k s ≡ r → joined b r ≡ is n rest → Was k (b ∷ s) n rest
unfolding joined
was_joined k b s endless n rest h f g = absurd (let z : ◌≡◌ {A = ℕ} 0 1 = cc in omega arith)
was_joined k b s ended n rest h f g = absurd (let z : ◌≡◌ {A = ℕ} 0 1 = cc in omega arith)
was_joined k b s padded n rest h f g = absurd (let z : ◌≡◌ {A = ℕ} 0 1 = cc in omega arith)
was_joined k b s (is zero r) n rest h f g = absurd (let z : ◌≡◌ {A = ℕ} 0 1 = cc in omega arith)
was_joined k b s (is (suc v) r) n rest h f g =
    let e : b % 128 + 128 * suc v ≡ n = cc in
    let o : r ≡ rest = cc in
    rw (← e) (more b (suc v) s rest h (omega arith) (f ∙ ap (is (suc v)) o))

pub was : (k : ℕ) (s : List ℕ) (n : ℕ) (rest : List ℕ) → read_groups (suc k) s ≡ is n rest → Was k s n rest
unfolding read_groups
was k [] n rest g = absurd (let z : ◌≡◌ {A = ℕ} 0 1 = cc in omega arith)
was k (b ∷ s) n rest g = elim (dec_lt b 128) [
  | yes l ↦
      let f = sym (read_last k b s l) ∙ g in
      let e : b ≡ n = cc in
      let o : s ≡ rest = cc in
      rw (← e, ← o) (one b s l)
  | no q ↦ was_joined k b s (read_groups k s) n rest (omega arith) refl (sym (read_more k b s (omega arith)) ∙ g)
]

read_none : (s : List ℕ) (n : ℕ) (rest : List ℕ) → read_groups 0 s ≡ is n rest → ⊥
unfolding read_groups
read_none s n rest g = let z : ◌≡◌ {A = ℕ} 0 1 = cc in omega arith

-- a number that was read is one that its groups hold
below_was : (k : ℕ) (s : List ℕ) (n : ℕ) (rest : List ℕ) → Was k s n rest → ((t : List ℕ) (v : ℕ) → read_groups k t ≡ is v rest → v < 128 ^ k) → n < 128 ^ suc k
below_was k s n rest (one b t h) ih = omega (arith, pow_more k, pow_pos k)
below_was k s n rest (more b v t o h p f) ih = omega (arith, pow_more k, ih t v f)

pub read_below : (k : ℕ) (s : List ℕ) (n : ℕ) (rest : List ℕ) → read_groups k s ≡ is n rest → n < 128 ^ k
read_below zero s n rest g = absurd (read_none s n rest g)
read_below (suc k) s n rest g = below_was k s n rest (was k s n rest g) (λ t v f. read_below k t v rest f)

-- the octets that remain are the end of those that were there, and at least one was taken
pub record Taken (s rest : List ℕ) : Type 0 where
  pub front : List ℕ
  pub some : 0 < length front
  pub split : s ≡ front ++ rest

taken_was : (k : ℕ) (s : List ℕ) (n : ℕ) (rest : List ℕ) → Was k s n rest → ((t : List ℕ) (v : ℕ) → read_groups k t ≡ is v rest → Taken t rest) → Taken s rest
taken_was k s n rest (one b t h) ih = record { front = b ∷ []; some = omega arith; split = refl }
taken_was k s n rest (more b v t o h p f) ih =
    let i = ih t v f in
    record { front = b ∷ i.front; some = omega arith; split = ap (λ (x : List ℕ). b ∷ x) i.split }

pub read_taken : (k : ℕ) (s : List ℕ) (n : ℕ) (rest : List ℕ) → read_groups k s ≡ is n rest → Taken s rest
read_taken zero s n rest g = absurd (read_none s n rest g)
read_taken (suc k) s n rest g = taken_was k s n rest (was k s n rest g) (λ t v f. read_taken k t v rest f)

----- Round trips: "a number and its shortest form determine each other"

-- what is written is read; no group holds no number, so the count of groups is suc k
pub written_read : (k n : ℕ) (rest : List ℕ) → n < 128 ^ suc k → read_groups (suc k) (shortest (suc k) n ++ rest) ≡ is n rest
written_read zero n rest h =
    let l : n < 128 = omega (arith, pow_more 0) in
    rw (shortest_last 0 n l) (read_last 0 n rest l)
written_read (suc k) n rest h = elim (dec_lt n 128) [
  | yes l ↦ rw (shortest_last (suc k) n l) (read_last (suc k) n rest l)
  | no g ↦
      let m : 128 ≤ n = omega arith in
      let b : n / 128 < 128 ^ suc k = omega (arith, pow_more (suc k)) in
      let v : (128 + n % 128) % 128 + 128 * (n / 128) ≡ n = omega arith in
      rw (shortest_more (suc k) n m)
      (read_more (suc k) (128 + n % 128) (shortest (suc k) (n / 128) ++ rest) (omega arith)
      ∙ ap (joined (128 + n % 128)) (written_read k (n / 128) rest b)
      ∙ joined_is (128 + n % 128) (n / 128) rest (omega arith)
      ∙ ap (λ (x : ℕ). is x rest) v)
]

written_was : (k : ℕ) (s : List ℕ) (n : ℕ) (rest : List ℕ) → Octets s → Was k s n rest
    → ((t : List ℕ) (v : ℕ) → Octets t → read_groups k t ≡ is v rest → t ≡ shortest k v ++ rest) → s ≡ shortest (suc k) n ++ rest
written_was k s n rest o (one b t h) ih = rw (shortest_last k b h)
written_was k s n rest o (more b v t r h p f) ih =
    let m : b % 128 + 128 * v ≡ n = refl in
    let x : 128 + n % 128 ≡ b = omega (arith, o 0) in
    let y : n / 128 ≡ v = omega (arith, o 0) in
    rw (shortest_more k n (omega arith), x, y) (ap (λ (z : List ℕ). b ∷ z) (ih t v (λ i. o (suc i)) f))

-- what is read was written
pub read_written : (k : ℕ) (s : List ℕ) (n : ℕ) (rest : List ℕ) → Octets s → read_groups k s ≡ is n rest → s ≡ shortest k n ++ rest
read_written zero s n rest o g = absurd (read_none s n rest g)
read_written (suc k) s n rest o g = written_was k s n rest o (was k s n rest g) (λ t v q f. read_written k t v rest q f)
