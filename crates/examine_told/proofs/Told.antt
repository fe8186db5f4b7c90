-- The numbers told are those of the answer, variant by variant: the answer is rewritten by what its function promises. Assumes nothing.
use mathlib.Core.Path.{◌≡◌, ap}
use Prim.Native.Nat.{ℕ}
use Rattle.examiner.specs.Examine.{Examined, Refused, Verdict, examine_refusal_of, verdict_of, bound_of}

pub examined_refused : (e : ℕ) (answer : Examined) → Refused e ≡ answer
    → (e ≡ examine_refusal_of answer) × (0 ≡ verdict_of answer) × (0 ≡ bound_of answer)
examined_refused e answer g = (ap examine_refusal_of g, ap verdict_of g, ap bound_of g)

pub examined_told : (v b : ℕ) (answer : Examined) → Verdict v b ≡ answer
    → (0 ≡ examine_refusal_of answer) × (v ≡ verdict_of answer) × (b ≡ bound_of answer)
examined_told v b answer g = (ap examine_refusal_of g, ap verdict_of g, ap bound_of g)
