-- The numbers told are those of the answer, variant by variant: the answer is rewritten by what its function promises. Assumes nothing.
use mathlib.Core.Path.{◌≡◌, sym, ap}
use mathlib.Core.List.{List}
use Prim.Native.Nat.{ℕ}
use Rattle.std.specs.Prelude.{Result, Ok, Err}
use Rattle.std.specs.Result.{result_unwrap_or}
use Rattle.refusals.specs.declared.Refusal.{Refusal}
use Rattle.refusals.specs.Numbers.{number_of, told}
use Rattle.optimum.specs.Promise.{Promised}
use Rattle.most_told.specs.MostTold.{MostTold}

module _ (octets : List ℕ) (horizon : ℕ) (before after : List ℕ) (answer : Result ℕ Refusal) (p : Promised octets horizon before after answer) where
  pub most_refused : (e : Refusal) → answer ≡ Err e → MostTold octets horizon before after 0 (number_of e)
  most_refused e g = record { answer = answer; promised = p; refusal_told = sym (ap (told {A = ℕ}) g); blocks_told = sym (ap (λ (r : Result ℕ Refusal). result_unwrap_or r 0) g) }

  pub most_told : (n : ℕ) → answer ≡ Ok n → MostTold octets horizon before after n 0
  most_told n g = record { answer = answer; promised = p; refusal_told = sym (ap (told {A = ℕ}) g); blocks_told = sym (ap (λ (r : Result ℕ Refusal). result_unwrap_or r 0) g) }
