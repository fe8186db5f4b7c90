-- Laws of lists: what holds of all elements, lists of zeros, and lists of values. By induction over the list. Assumes nothing.
use mathlib.Core.Path.{◌≡◌, refl}
use mathlib.Core.List.{List, [], ◌∷◌, ◌++◌}
use Prim.Native.Nat.{ℕ, zero, suc, ◌<◌}
use native.Mathlib.Omega.{arith}
use lib.ListN.{length, get_or, replicate}
use Rattle.flows.specs.Lists.{All}

module _ {A : Type 0} (P : A → Type 0) where
  pub all_append : (xs ys : List A) → All P xs → All P ys → All P (xs ++ ys)
  all_append [] ys a b = b
  all_append (x ∷ xs) ys a b = (a.0, all_append xs ys a.1 b)

  pub all_at : (xs : List A) → All P xs → (d : A) (i : ℕ) → i < length xs → P (get_or xs i d)
  all_at [] a d i h = absurd (omega arith)
  all_at (x ∷ xs) a d zero h = a.0
  all_at (x ∷ xs) a d (suc i) h = all_at xs a.1 d i (omega arith)

  pub all_of : (xs : List A) (d : A) → ((i : ℕ) → i < length xs → P (get_or xs i d)) → All P xs
  all_of [] d h = tt
  all_of (x ∷ xs) d h = (h 0 (omega arith), all_of xs d (λ i l. h (suc i) (omega arith)))

pub all_map : {A : Type 0} (P Q : A → Type 0) (xs : List A) → ((x : A) → P x → Q x) → All P xs → All Q xs
all_map P Q [] h a = tt
all_map P Q (x ∷ xs) h a = (h x a.0, all_map P Q xs h a.1)

-- every number of a list of zeros is 0, past its end too
pub get_or_zeros : (n i : ℕ) → get_or {A = ℕ} (replicate n 0) i 0 ≡ 0
get_or_zeros zero i = refl
get_or_zeros (suc n) zero = refl
get_or_zeros (suc n) (suc i) = get_or_zeros n i

-- the first values of a function
abbrev pub listed : (ℕ → ℕ) → ℕ → List ℕ
listed g zero = []
listed g (suc n) = g 0 ∷ listed (λ i. g (suc i)) n

pub listed_length : (g : ℕ → ℕ) (n : ℕ) → length (listed g n) ≡ n
listed_length g zero = refl
listed_length g (suc n) = omega (arith, listed_length (λ i. g (suc i)) n)

pub listed_at : (g : ℕ → ℕ) (n i : ℕ) → i < n → get_or (listed g n) i 0 ≡ g i
listed_at g zero i p = absurd (omega arith)
listed_at g (suc n) zero p = refl
listed_at g (suc n) (suc i) p = listed_at (λ j. g (suc j)) n i (omega arith)
