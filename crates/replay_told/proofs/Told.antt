-- The numbers told are those of the answer, variant by variant: the answer is rewritten by what its function promises. Assumes nothing.
use mathlib.Core.Path.{◌≡◌, ap, ◌∙◌}
use Prim.Native.Nat.{ℕ}
use Rattle.std.specs.Prelude.{Result, Ok, Err}
use Rattle.refusals.specs.declared.Refusal.{Refusal}
use Rattle.refusals.specs.Numbers.{number_of}
use Rattle.replay.specs.declared.Finding.{Finding}
use Rattle.replay.specs.Replay.{number_of_finding, figure_of_finding, replay_refusal_of, finding_of, delivered_of}

pub refused_told : (e : Refusal) (answer : Result Finding Refusal) → Err e ≡ answer → (r : ℕ) → r ≡ number_of e
    → (r ≡ replay_refusal_of answer) × (0 ≡ finding_of answer) × (0 ≡ delivered_of answer)
refused_told e answer g r h = (h ∙ ap replay_refusal_of g, ap finding_of g, ap delivered_of g)

pub found_told : (f : Finding) (answer : Result Finding Refusal) → Ok f ≡ answer → (n d : ℕ) → n ≡ number_of_finding f → d ≡ figure_of_finding f
    → (0 ≡ replay_refusal_of answer) × (n ≡ finding_of answer) × (d ≡ delivered_of answer)
found_told f answer g n d h i = (ap replay_refusal_of g, h ∙ ap finding_of g, i ∙ ap delivered_of g)
