-- What the text programs read, as a network and a plan for it: framing's refusals come first, then the network's, then the plan's.
use Rattle.std.specs.Prelude.{List, ℕ}
use Rattle.numbers.specs.Field.{Parse, accepted, and_then}
use Rattle.flows.specs.Network.{Network, count}
use Rattle.flows.specs.Plan.{Plan}
use Rattle.network.specs.Record.{read_network}
use Rattle.plans.specs.Carried.{read_carrying}
use Rattle.inputs.specs.Frame.{framed}

pub record Input : Type 0 where
  pub network : Network
  pub plan : Plan

-- a network's record and a plan's, which carries the network's
unfoldable pub read_records : List ℕ → List ℕ → Parse Input
read_records octets written =
    and_then (read_network octets) λ N none.
    and_then (read_carrying octets N.places (count N) written) λ p none.
    accepted (record { network = N; plan = p }) none

-- "a network record's length as a number, that record, a plan record"
unfoldable pub read_input : List ℕ → Parse Input
read_input input = and_then (framed input) λ r none. read_records r.network r.plan
