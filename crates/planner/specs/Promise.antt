-- "Plan the least horizon": what the operation promises for every input.
use Rattle.std.specs.Prelude.{◌≡◌, ◌⊎◌, List, [], Bool, cond, ◌||◌, ℕ, suc, ◌<◌, length, take, drop, ltb, Result, Ok, Err}
use Rattle.refusals.specs.declared.Refusal.{Refusal}
use Rattle.refusals.specs.declared.Refusal.TheVariants.{AmountLimits, NoChain, PlanBufferShort}
use Rattle.refusals.specs.Numbers.{number_of}
use Rattle.limits.specs.Limits.{least_amount, most_amount, plan_buffer}
use Rattle.numbers.specs.Field.{Parse, refused, accepted}
use Rattle.flows.specs.Network.{Network, count}
use Rattle.flows.specs.Flow.{Least}
use Rattle.flows.specs.Holding.{Unheld, LeastUnheld}
use Rattle.flows.specs.Rows.{load}
use Rattle.flows.specs.Cut.{bound}
use Rattle.flows.specs.Plan.{Plan, verdict}
use Rattle.statics.specs.Reach.{SimpleRows, Reachable}
use Rattle.network.specs.Record.{read_network, record_of}
use Rattle.plans.specs.Carried.{read_carrying, carrying}
use Rattle.examiner.specs.Examine.{Verdict, examined}
use Rattle.planner.specs.declared.Written.{Written}

-- what planning answers: T and the record's length, or a refusal
abbrev pub Planned : Type 0
Planned = Result Written Refusal

-- This paper's numbers of an answer, for each of its cases: "a refused call gives its number, 0 in every other number of the answer".
abbrev pub plan_refusal_of : Planned → ℕ
plan_refusal_of (Err e) = number_of e
plan_refusal_of (Ok w) = 0

abbrev pub horizon_of : Planned → ℕ
horizon_of (Err e) = 0
horizon_of (Ok w) = w.horizon

abbrev pub plan_length_of : Planned → ℕ
plan_length_of (Err e) = 0
plan_length_of (Ok w) = w.length

-- "11 amount outside its limits; 13 buffer under 38,912 octets"; or neither
unfoldable pub refusal_after : ℕ → ℕ → Result (Unit {0}) Refusal
refusal_after amount lent =
    cond (ltb amount least_amount || ltb most_amount amount) (Err AmountLimits) (cond (ltb lent plan_buffer) (Err PlanBufferShort) (Ok tt))

-- "the answer is T and the record's length": the buffer's first octets, as many as the length answered, are the record of a plan that
-- carries this network's record, with the amount and T and the verdict 0, none of its rows visits a place twice, octets past the record
-- are as before, and T is the least horizon over every flow; its rows hold nothing, and T is the least horizon of the flows that hold
-- nothing too
pub record Brought (network : List ℕ) (N : Network) (amount : ℕ) (before after : List ℕ) (answer : Planned) : Type 0 where
  pub plan : Plan
  pub written : answer ≡ Ok (record { horizon = plan.horizon; length = length (carrying network plan) })
  pub refusal_number : plan_refusal_of answer ≡ 0
  pub horizon_number : horizon_of answer ≡ plan.horizon
  pub length_number : plan_length_of answer ≡ length (carrying network plan)
  pub amount_kept : plan.amount ≡ amount
  pub front : take (length (carrying network plan)) after ≡ carrying network plan
  pub rest : drop (length (carrying network plan)) after ≡ drop (length (carrying network plan)) before
  pub size : length after ≡ length before
  pub readable : read_carrying network N.places (count N) (carrying network plan) ≡ accepted plan []
  pub passes : verdict N plan ≡ 0
  pub simple : SimpleRows N plan.rows
  pub least : Least N amount plan.horizon
  pub unheld : Unheld N plan.horizon (load N plan.rows)
  pub least_unheld : LeastUnheld N amount plan.horizon

-- the plan carries the record that was handed over, and the examiner gives the two records 0
pub record Answered (network : List ℕ) (N : Network) (amount : ℕ) (before after : List ℕ) (answer : Planned) : Type 0 where
  pub brought : Brought network N amount before after answer
  pub passes : examined network (carrying network brought.plan) ≡ Verdict 0 (bound N brought.plan.cut)

-- a refusal by its number, with the buffer as it was
pub record RefusedWith (refusal : Refusal) (before after : List ℕ) (answer : Planned) : Type 0 where
  pub number : answer ≡ Err refusal
  pub refusal_number : plan_refusal_of answer ≡ number_of refusal
  pub horizon_number : horizon_of answer ≡ 0
  pub length_number : plan_length_of answer ≡ 0
  pub kept : after ≡ before

-- "12 if no chain of links with capacity of at least 1 leads from origin to archive, and in no other event", else A
abbrev pub OrTwelve : Network → Type 0 → List ℕ → List ℕ → Planned → Type 0
OrTwelve N A before after answer = (Reachable N × A) ⊎ ((Reachable N → ⊥) × RefusedWith NoChain before after answer)

-- what planning promises of a network within its limits, for an amount and a buffer within theirs: the plan carries the network's record
abbrev pub PlannedFor : Network → ℕ → List ℕ → List ℕ → Planned → Type 0
PlannedFor N amount before after answer = OrTwelve N (Brought (record_of N) N amount before after answer) before after answer

abbrev pub Decided : List ℕ → Network → ℕ → List ℕ → List ℕ → Planned → Result (Unit {0}) Refusal → Type 0
Decided network N amount before after answer (Ok x) = OrTwelve N (Answered network N amount before after answer) before after answer
Decided network N amount before after answer (Err e) = RefusedWith e before after answer

abbrev pub PromisedOf : List ℕ → Parse Network → ℕ → List ℕ → List ℕ → Planned → Type 0
PromisedOf network (refused e) amount before after answer = RefusedWith e before after answer
PromisedOf network (accepted N rest) amount before after answer =
    Decided network N amount before after answer (refusal_after amount (length before))

-- what `plan` promises, for every record, amount and buffer
abbrev pub Promised : List ℕ → ℕ → List ℕ → List ℕ → Planned → Type 0
Promised network amount before after answer = PromisedOf network (read_network network) amount before after answer
