-- The three numbers of an answer, by what reading the network and the plan gives. That an answer is the one of `examined` says as much.
use Rattle.std.specs.Prelude.{◌≡◌, List, ℕ}
use Rattle.refusals.specs.Numbers.{number_of}
use Rattle.numbers.specs.Field.{Parse, refused, accepted}
use Rattle.flows.specs.Network.{Network, count}
use Rattle.flows.specs.Cut.{bound}
use Rattle.flows.specs.Plan.{Plan, verdict}
use Rattle.plans.specs.Carried.{read_carrying}
use Rattle.examiner.specs.Examine.{Examined, examine_refusal_of, verdict_of, bound_of}

-- the answer's refusal is r, its verdict v and its bound b
pub record Numbers (r v b : ℕ) (answer : Examined) : Type 0 where
  pub refusal_number : examine_refusal_of answer ≡ r
  pub verdict_number : verdict_of answer ≡ v
  pub bound_number : bound_of answer ≡ b

-- the three by what reading the plan gives, and by what reading the network gives
abbrev pub PlanNumbers : Network → Parse Plan → Examined → Type 0
PlanNumbers N (refused e) answer = Numbers (number_of e) 0 0 answer
PlanNumbers N (accepted p rest) answer = Numbers 0 (verdict N p) (bound N p.cut) answer

abbrev pub NumbersFor : List ℕ → Parse Network → List ℕ → Examined → Type 0
NumbersFor octets (refused e) plan answer = Numbers (number_of e) 0 0 answer
NumbersFor octets (accepted N rest) plan answer = PlanNumbers N (read_carrying octets N.places (count N) plan) answer
