-- Blocks taken off the links of a chain one after another: what is left and what was taken are what was there, by induction over the
-- chain's links. Assumes nothing.
use mathlib.Core.Path.{◌≡◌, refl, ◌∙◌}
use mathlib.Core.List.{List, [], ◌∷◌}
use Prim.Native.Nat.{ℕ, ◌+◌, ◌-◌, ◌*◌, ◌≤◌, ◌<◌}
use native.Mathlib.Nat.{zero-mul}
use native.Mathlib.Omega.{arith}
use lib.ListN.{length, set, length-set}
use Rattle.flows.specs.Lists.{All}
use Rattle.flows.proofs.Sums.{only_same}
use Rattle.statics.specs.Static.{on_link}
use Rattle.statics.specs.Reach.{uses}
use Rattle.statics.proofs.Balance.{set_less}
use Rattle.statics.proofs.Chains.{uses_cons}
use Rattle.turns.specs.Turn.{lessened, Holds}

pub lessened_length : (x : List ℕ) (b : ℕ) (es : List ℕ) → length (lessened x b es) ≡ length x
lessened_length x b [] = refl
lessened_length x b (l ∷ es) = lessened_length (set x l (on_link x l - b)) b es ∙ length-set x l (on_link x l - b)

module _ (x : List ℕ) (b l : ℕ) (es : List ℕ) (holds : Holds x b (l ∷ es)) where
  pub holds_first : b ≤ on_link x l
  holds_first = omega (arith, holds l, uses_cons l es l b, only_same l b)

  pub holds_later : l < length x → Holds (set x l (on_link x l - b)) b es
  holds_later p e = omega (arith, holds e, uses_cons l es e b, set_less x l b p holds_first e)

pub lessened_taken : (x : List ℕ) (b : ℕ) (es : List ℕ) → All (λ e. e < length x) es → Holds x b es
    → (e : ℕ) → on_link x e ≡ on_link (lessened x b es) e + uses es e * b
lessened_taken x b [] known holds e = omega (arith, zero-mul b)
lessened_taken x b (l ∷ es) known holds e =
    let y : List ℕ = set x l (on_link x l - b) in
    omega (
      arith,
      lessened_taken y b es (rw length-set known.1) (holds_later x b l es holds known.0) e,
      set_less x l b known.0 (holds_first x b l es holds) e,
      uses_cons l es e b,
    )
