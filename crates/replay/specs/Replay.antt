-- "Replay of the link log" (document 02): the answer for all inputs.
use Rattle.std.specs.Prelude.{List, ℕ, zero, suc, Result, Ok, Err}
use Rattle.refusals.specs.declared.Refusal.{Refusal}
use Rattle.refusals.specs.Numbers.{number_of}
use Rattle.numbers.specs.Field.{Parse, refused, accepted}
use Rattle.flows.specs.Network.{Network, count}
use Rattle.network.specs.Record.{read_network}
use Rattle.logs.specs.declared.Entry.{Entry}
use Rattle.logs.specs.Finding.{finding, figure}
use Rattle.logs.specs.Record.{read_log}
use Rattle.replay.specs.declared.Finding.{Finding}
use Rattle.replay.specs.declared.Finding.TheVariants.{Kept, Overfull, Oversent}

-- the papers' numbers of a finding: 0, 1 or 2, and the figure
abbrev pub number_of_finding : Finding → ℕ
number_of_finding (Kept d) = 0
number_of_finding Overfull = 1
number_of_finding Oversent = 2

abbrev pub figure_of_finding : Finding → ℕ
figure_of_finding (Kept d) = d
figure_of_finding Overfull = 0
figure_of_finding Oversent = 0

-- the finding with a number, and with a figure beside 0
abbrev pub found : ℕ → ℕ → Finding
found zero d = Kept d
found (suc zero) d = Overfull
found (suc (suc n)) d = Oversent

-- "turned away: .. entry by entry"; otherwise what the replay gives
unfoldable pub replayed_log : Network → Parse (List Entry) → Result Finding Refusal
replayed_log N (refused e) = Err e
replayed_log N (accepted es rest) = Ok (found (finding N es) (figure N es))

-- "after the network's own"
unfoldable pub replayed_for : Parse Network → List ℕ → Result Finding Refusal
replayed_for (refused e) log = Err e
replayed_for (accepted N rest) log = replayed_log N (read_log (count N) log)

-- a network's record and a log's record
unfoldable pub replayed : List ℕ → List ℕ → Result Finding Refusal
replayed octets log = replayed_for (read_network octets) log

-- The papers' numbers of an answer, for each of its cases: "a refused call gives its number, 0 in every other number of the answer".
abbrev pub replay_refusal_of : Result Finding Refusal → ℕ
replay_refusal_of (Err e) = number_of e
replay_refusal_of (Ok f) = 0

abbrev pub finding_of : Result Finding Refusal → ℕ
finding_of (Err e) = 0
finding_of (Ok f) = number_of_finding f

abbrev pub delivered_of : Result Finding Refusal → ℕ
delivered_of (Err e) = 0
delivered_of (Ok f) = figure_of_finding f
