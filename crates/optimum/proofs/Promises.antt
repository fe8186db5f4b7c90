-- The promise of `most`, way by way: the reader's refusal, the refusals after it, and the answer. A network that was read is the one
-- that its struct holds. Assumes nothing.
use mathlib.Core.Path.{◌≡◌, refl, sym, subst, ◌∙◌}
use mathlib.Core.List.{List}
use Prim.Native.Nat.{ℕ, ◌≤◌, ◌<◌}
use native.Mathlib.Omega.{arith}
use native.Mathlib.Decide.{dec_lt}
use lib.ListN.{length}
use borrow.Author.Tests.{lt-ltb, le-ltb}
use Rattle.std.specs.Prelude.{Result, Ok, Err}
use Rattle.refusals.specs.declared.Refusal.{Refusal}
use Rattle.refusals.specs.declared.Refusal.TheVariants.{HorizonLimits, CutShort}
use Rattle.limits.specs.Limits.{longest_horizon}
use Rattle.numbers.specs.Field.{Parse}
use Rattle.flows.specs.Network.{Network}
use Rattle.network.specs.declared.Network as struct
use Rattle.network.specs.Record.{read_network}
use Rattle.network.specs.Held.{model_of, read_answer}
use Rattle.network.proofs.Answers.{was_refused, was_read}
use Rattle.optimum.specs.Promise.{refusal_after, Answered, RefusedWith, Decided, PromisedOf, Promised}

-- what is refused after reading, test by test
module _ (N : Network) (horizon lent : ℕ) where
  pub too_long : longest_horizon < horizon → Err HorizonLimits ≡ refusal_after N horizon lent
  unfolding refusal_after
  too_long h = rw (lt-ltb longest_horizon horizon h) refl

  pub too_few : horizon ≤ longest_horizon → lent < N.places → Err CutShort ≡ refusal_after N horizon lent
  unfolding refusal_after
  too_few h l = rw (le-ltb longest_horizon horizon h, lt-ltb lent N.places l) refl

  pub within_limits : horizon ≤ longest_horizon → N.places ≤ lent → Ok tt ≡ refusal_after N horizon lent
  unfolding refusal_after
  within_limits h l = rw (le-ltb longest_horizon horizon h, le-ltb lent N.places l) refl

  -- where nothing is refused, horizon and list are within their limits
  pub none_refused : (x : Unit {0}) → Ok x ≡ refusal_after N horizon lent → (horizon ≤ longest_horizon) × (N.places ≤ lent)
  none_refused x z = elim (dec_lt longest_horizon horizon) [
    | yes h ↦ absurd (let e : Err HorizonLimits ≡ Ok x = too_long h ∙ sym z in let f : ◌≡◌ {A = ℕ} 0 1 = cc in omega arith)
    | no h ↦ elim (dec_lt lent N.places) [
      | yes l ↦ absurd (let e : Err CutShort ≡ Ok x = too_few (omega arith) l ∙ sym z in let f : ◌≡◌ {A = ℕ} 0 1 = cc in omega arith)
      | no l ↦ (omega arith, omega arith)
    ]
  ]

-- a refusal that leaves the numbers lent alone
refused_kept : (refusal : Refusal) (lent : List ℕ) → RefusedWith refusal lent lent (Err refusal)
refused_kept refusal lent = record { number = refl; refusal_number = refl; blocks_number = refl; kept = refl }

module _ (s : List ℕ) (horizon : ℕ) (before : List ℕ) where
  -- 1 to 7
  pub promise_read : (e : Refusal) → Err e ≡ read_answer (read_network s) → Promised s horizon before before (Err e)
  promise_read e h =
      subst (λ (p : Parse Network). PromisedOf p horizon before before (Err e)) (sym (was_refused s e h)) (refused_kept e before)

  module _ (net : struct.Network) (read : Ok net ≡ read_answer (read_network s)) where
    decided : (after : List ℕ) (answer : Result ℕ Refusal)
        → Decided (model_of net) horizon before after answer (refusal_after (model_of net) horizon (length before))
        → Promised s horizon before after answer
    decided after answer d = subst (λ (p : Parse Network). PromisedOf p horizon before after answer) (sym (was_read s net read).reads) d

    -- 9 or 10
    pub promise_refused : (refusal : Refusal) → Err refusal ≡ refusal_after (model_of net) horizon (length before)
        → Promised s horizon before before (Err refusal)
    promise_refused refusal h =
        decided before (Err refusal) (subst (Decided (model_of net) horizon before before (Err refusal)) h (refused_kept refusal before))

    -- the answer
    pub promise_answer : (after : List ℕ) (answer : Result ℕ Refusal) (x : Unit {0}) → Ok x ≡ refusal_after (model_of net) horizon (length before)
        → Answered (model_of net) horizon before after answer → Promised s horizon before after answer
    promise_answer after answer x none a = decided after answer (subst (Decided (model_of net) horizon before after answer) none a)
