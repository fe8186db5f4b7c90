-- The numbers of an answer in the C interface: "a refused call gives its number, 0 in every other number of the answer".
use Rattle.std.specs.Prelude.{◌≡◌, List, ℕ}
use Rattle.planner.specs.Promise.{Planned, plan_refusal_of, horizon_of, plan_length_of, Promised}

-- the refusal, the horizon and the record's length are the numbers of an answer that `plan` promises
pub record PlanTold (network : List ℕ) (amount : ℕ) (before after : List ℕ) (horizon length' refusal : ℕ) : Type 0 where
  pub answer : Planned
  pub promised : Promised network amount before after answer
  pub refusal_told : refusal ≡ plan_refusal_of answer
  pub horizon_told : horizon ≡ horizon_of answer
  pub length_told : length' ≡ plan_length_of answer
