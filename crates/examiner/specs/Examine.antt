-- "Examine a plan": the answer for all inputs.
use Rattle.std.specs.Prelude.{List, ℕ}
use Rattle.numbers.specs.Field.{Parse, refused, accepted}
use Rattle.flows.specs.Network.{Network, count}
use Rattle.flows.specs.Cut.{bound}
use Rattle.flows.specs.Plan.{Plan, verdict}
use Rattle.network.specs.Record.{read_network}
use Rattle.plans.specs.Carried.{read_carrying}
use Rattle.refusals.specs.Numbers.{number_of}

-- what examining answers, in numbers: a refusal's, or the plan's verdict and the bound of its cut
pub data Examined : Type 0 where
  Refused : ℕ → Examined
  Verdict : ℕ → ℕ → Examined

-- "then for the plan, number by number ..; otherwise a verdict"; "the answer holds the verdict and that bound, under every verdict the
-- sum above over the numbers as written"
unfoldable pub examined_plan : Network → Parse Plan → Examined
examined_plan N (refused e) = Refused (number_of e)
examined_plan N (accepted p rest) = Verdict (verdict N p) (bound N p.cut)

-- "1 to 7 for the network"; of the plan, "23 when the copy isn't the given network" too
unfoldable pub examined_for : List ℕ → Parse Network → List ℕ → Examined
examined_for octets (refused e) plan = Refused (number_of e)
examined_for octets (accepted N rest) plan = examined_plan N (read_carrying octets N.places (count N) plan)

-- a network's record and a plan's record
unfoldable pub examined : List ℕ → List ℕ → Examined
examined octets plan = examined_for octets (read_network octets) plan

-- This paper's numbers of an answer, for each of its cases: "a refused call gives its number, 0 in every other number of the answer".
abbrev pub examine_refusal_of : Examined → ℕ
examine_refusal_of (Refused e) = e
examine_refusal_of (Verdict v b) = 0

abbrev pub verdict_of : Examined → ℕ
verdict_of (Refused e) = 0
verdict_of (Verdict v b) = v

abbrev pub bound_of : Examined → ℕ
bound_of (Refused e) = 0
bound_of (Verdict v b) = b
