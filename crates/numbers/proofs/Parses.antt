-- Laws of reading part after part: what is known where a record, or its next part, was accepted. Assumes nothing.
use mathlib.Core.Path.{◌≡◌, refl, sym, ◌∙◌}
use mathlib.Core.List.{List, [], ◌∷◌}
use mathlib.Core.Bool.{Bool, true, false, cond}
use Prim.Native.Nat.{ℕ}
use native.Mathlib.Omega.{arith}
use lib.ListN.{length}
use lib.Dec.{eqb}
use borrow.Author.Tests.{eqb-true}
use Rattle.numbers.specs.Field.{ParseBy, refused, accepted, and_then, complete}

-- ---- what was accepted

-- two parts were accepted: the first with the octets that the second was read from
pub then_accepted : {R A B : Type 0} (p : ParseBy R A) (f : A → List ℕ → ParseBy R B) (b : B) (rest : List ℕ) → and_then p f ≡ accepted b rest
    → (a : A) × (s : List ℕ) × (p ≡ accepted a s) × (f a s ≡ accepted b rest)
unfolding and_then
then_accepted (refused e) f b rest h = absurd (let z : ◌≡◌ {A = ℕ} 0 1 = cc in omega arith)
then_accepted (accepted a s) f b rest h = (a, s, refl, h)

-- a part was accepted behind a test: the test did not refuse
pub test_accepted : {R A : Type 0} (t : Bool) (e : R) (p : ParseBy R A) (a : A) (rest : List ℕ) → cond t (refused e) p ≡ accepted a rest
    → (t ≡ false) × (p ≡ accepted a rest)
test_accepted true e p a rest h = absurd (let z : ◌≡◌ {A = ℕ} 0 1 = cc in omega arith)
test_accepted false e p a rest h = (refl, h)

pub accepted_value : {R A : Type 0} {a b : A} {s t : List ℕ} → ◌≡◌ {A = ParseBy R A} (accepted a s) (accepted b t) → a ≡ b
accepted_value h = cc

pub accepted_rest : {R A : Type 0} {a b : A} {s t : List ℕ} → ◌≡◌ {A = ParseBy R A} (accepted a s) (accepted b t) → s ≡ t
accepted_rest h = cc

pub nothing_left : (s : List ℕ) → length s ≡ 0 → s ≡ []
nothing_left [] h = refl
nothing_left (b ∷ s) h = absurd (omega arith)

-- a record was accepted whole: no octets remain
pub complete_accepted : {R A : Type 0} (e : R) (a b : A) (s rest : List ℕ) → complete e a s ≡ accepted b rest → (a ≡ b) × (s ≡ []) × (rest ≡ [])
unfolding complete
complete_accepted e a b s rest h = go (eqb (length s) 0) refl h
  where
    go : (t : Bool) → eqb (length s) 0 ≡ t → cond t (accepted a s) (refused e) ≡ accepted b rest → (a ≡ b) × (s ≡ []) × (rest ≡ [])
    go true q g =
        let z = nothing_left s (eqb-true (length s) 0 q) in
        (accepted_value g, z, sym (accepted_rest g) ∙ z)
    go false q g = absurd (let z : ◌≡◌ {A = ℕ} 0 1 = cc in omega arith)
