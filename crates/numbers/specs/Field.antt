-- A number of a record with its limits, and reading a record field by field: the first field that fails decides.
use Rattle.std.specs.Prelude.{List, [], ◌∷◌, ◌++◌, cond, ℕ, zero, suc, length, ltb, eqb}
use Rattle.refusals.specs.declared.Refusal.{Refusal}
use Rattle.numbers.specs.declared.Misspelling.{Misspelling}
use Rattle.numbers.specs.declared.Misspelling.TheVariants.{Endless, Ended, Padded}
use Rattle.numbers.specs.declared.Refusals.{Refusals}
use Rattle.numbers.specs.Leb128.{groups, Reading, endless, ended, padded, is, read_groups}

-- what reading a part of a record gives: a refusal, of whatever type R, or a value and the octets that remain
pub data ParseBy (R A : Type 0) : Type 0 where
  refused : R → ParseBy R A
  accepted : A → List ℕ → ParseBy R A

-- the records of documents 01 and 02 are refused by these names
abbrev pub Parse : Type 0 → Type 0
Parse A = ParseBy Refusal A

-- the next part is read from the octets that remain
unfoldable pub and_then : {R A B : Type 0} → ParseBy R A → (A → List ℕ → ParseBy R B) → ParseBy R B
and_then (refused e) f = refused e
and_then (accepted a rest) f = f a rest

-- the refusal that a record has for a misspelling
abbrev pub refusal_of : {R : Type 0} → Refusals R → Misspelling → R
refusal_of r Endless = r.endless
refusal_of r Ended = r.ended
refusal_of r Padded = r.padded

-- a number that must be from low to high, with the refusals that its record has for each failure
unfoldable pub limited : {R : Type 0} → Refusals R → ℕ → ℕ → Reading → ParseBy R ℕ
limited r low high endless = refused r.endless
limited r low high ended = refused r.ended
limited r low high padded = refused r.padded
limited r low high (is n rest) = cond (ltb n low) (refused r.outside) (cond (ltb high n) (refused r.outside) (accepted n rest))

-- the number at the front of a list of octets
unfoldable pub field : {R : Type 0} → Refusals R → ℕ → ℕ → List ℕ → ParseBy R ℕ
field r low high s = limited r low high (read_groups groups s)

-- n numbers with the same limits, one after another, behind those read before
unfoldable pub fields : {R : Type 0} → Refusals R → ℕ → ℕ → ℕ → List ℕ → List ℕ → ParseBy R (List ℕ)
fields r zero low high s before = accepted before s
fields r (suc n) low high s before = and_then (field r low high s) λ v s. fields r n low high s (before ++ (v ∷ []))

-- after a record's last number: a refusal if octets remain
unfoldable pub complete : {R A : Type 0} → R → A → List ℕ → ParseBy R A
complete refusal a s = cond (eqb (length s) 0) (accepted a s) (refused refusal)
