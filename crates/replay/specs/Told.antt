-- The numbers of an answer once more, by what reading gives: no clause of the C interface names these.
use Rattle.std.specs.Prelude.{◌≡◌, List, ℕ, Result}
use Rattle.refusals.specs.declared.Refusal.{Refusal}
use Rattle.refusals.specs.Numbers.{number_of}
use Rattle.numbers.specs.Field.{Parse, refused, accepted}
use Rattle.flows.specs.Network.{Network, count}
use Rattle.logs.specs.declared.Entry.{Entry}
use Rattle.logs.specs.Finding.{finding, figure}
use Rattle.logs.specs.Record.{read_log}
use Rattle.replay.specs.declared.Finding.{Finding}
use Rattle.replay.specs.Replay.{replay_refusal_of, finding_of, delivered_of}

-- the answer's refusal is r, its finding f and its figure d
pub record Numbers (r f d : ℕ) (answer : Result Finding Refusal) : Type 0 where
  pub refusal_number : replay_refusal_of answer ≡ r
  pub finding_number : finding_of answer ≡ f
  pub delivered_number : delivered_of answer ≡ d

-- the three by what reading the log gives, and by what reading the network gives
abbrev pub LogNumbers : Network → Parse (List Entry) → Result Finding Refusal → Type 0
LogNumbers N (refused e) answer = Numbers (number_of e) 0 0 answer
LogNumbers N (accepted es rest) answer = Numbers 0 (finding N es) (figure N es) answer

abbrev pub NumbersFor : Parse Network → List ℕ → Result Finding Refusal → Type 0
NumbersFor (refused e) log answer = Numbers (number_of e) 0 0 answer
NumbersFor (accepted N rest) log answer = LogNumbers N (read_log (count N) log) answer
