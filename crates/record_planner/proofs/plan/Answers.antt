-- `record_planner::plan` meets its contract: each way out is a case of the promise. Assumes nothing.
use mathlib.Core.Path.{sym}
use mathlib.Core.List.{[]}
use native.Mathlib.Omega.{arith}
use lib.ListN.{length}
use Rattle.std.proofs.lemmas.Result.{err_from_is_err_and}
use Rattle.numbers.specs.Leb128.{Octets}
use Rattle.network.specs.Held.{model_of}
use Rattle.network.proofs.Answers.{WasRead, was_refused, was_read}
use Rattle.network_writer.proofs.RoundTrip.{read_is_record}
use Rattle.planner.specs.Askable.{Askable}
use Rattle.plan_refusals.proofs.Refusals.{Within, none_refused}
use Rattle.record_planner.proofs.Outcomes.{network_refused, turned_down, taken}
use Rattle.record_planner.proofs.plan.Goals as goal
use Rattle.record_planner.proofs.plan.Goals.{In_ok-network, In_ok-refusal}

network_read : (c : In_ok-network) → WasRead c.args.«record».now c.in_ok-network.network
network_read c = was_read _ _ c.in_ok-network.ensures

within : (c : In_ok-refusal) → Within c.args.amount (length c.args.buffer.now)
within c = none_refused _ _ _ c.in_ok-refusal.ensures

asked : (c : In_ok-refusal) → Askable (model_of c.in_ok-network.network) c.args.amount c.args.buffer.now
asked c =
    record {
      well_formed = (network_read (goal.at.In_ok-refusal c).In_ok-network).well_formed;
      low = (within c).low;
      high = (within c).high;
      room = (within c).room;
    }

-- the record is a slice of octets
octets : (c : In_ok-refusal) → Octets c.args.«record».now
octets c i = omega (arith, c.type_inv.record i)

pub returns-in_err-network : goal.returns-in_err-network
returns-in_err-network c =
    let p = err_from_is_err_and c.from_residual.result c.from_residual.ensures.1 in
    rw (p.1, p.2) (network_refused _ _ _ _ (was_refused _ _ c.in_err-network.ensures))

pub returns-in_err-refusal : goal.returns-in_err-refusal
returns-in_err-refusal c =
    let p = err_from_is_err_and c.from_residual-in_err-refusal.result c.from_residual-in_err-refusal.ensures.1 in
    let net = network_read (goal.at.returns-in_err-refusal c).In_ok-network in
    rw (p.1, p.2) (turned_down _ _ _ _ net.reads _ c.in_err-refusal.ensures)

pub overflow_cast-amount : goal.overflow_cast-amount
overflow_cast-amount c = omega (arith, (within (goal.at.overflow_cast-amount c).In_ok-refusal).high)

pub plan_network-requires : goal.plan_network-requires
plan_network-requires c =
    let k = (goal.at.plan_network-requires c).In_ok-refusal in
    let net = network_read (goal.at.plan_network-requires c).In_ok-network in
    (asked k, sym (read_is_record _ _ [] (octets k) net.reads))

pub returns : goal.returns
returns c =
    let net = network_read (goal.at.returns c).In_ok-network in
    taken _ _ _ _ net.reads (octets (goal.at.returns c).In_ok-refusal) _ c.in_ok-refusal.ensures _ _ c.plan_network.ensures
