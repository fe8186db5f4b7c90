-- The numbers of an answer in the C interface: "a refused call gives its number, 0 in every other number of the answer".
use Rattle.std.specs.Prelude.{◌≡◌, List, ℕ, Result}
use Rattle.std.specs.Result.{result_unwrap_or}
use Rattle.refusals.specs.declared.Refusal.{Refusal}
use Rattle.refusals.specs.Numbers.{told}
use Rattle.optimum.specs.Promise.{Promised}

-- the refusal and the most blocks are the numbers of an answer that `most` promises
pub record MostTold (network : List ℕ) (horizon : ℕ) (before after : List ℕ) (blocks refusal : ℕ) : Type 0 where
  pub answer : Result ℕ Refusal
  pub promised : Promised network horizon before after answer
  pub refusal_told : refusal ≡ told answer
  pub blocks_told : blocks ≡ result_unwrap_or answer 0
