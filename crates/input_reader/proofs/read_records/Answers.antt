-- `read_records` meets its contract: the first record that is turned down decides, and structs of both are answered where none is.
-- Assumes nothing.
use Rattle.std.proofs.lemmas.Result.{err_from_is_err_and}
use Rattle.network.proofs.Links.{places_few, links_some, links_few}
use Rattle.network.proofs.Answers as networks
use Rattle.plans.proofs.Answers as plans
use Rattle.inputs.proofs.Taking.{records_refused, records_plan_refused, records_read}
use Rattle.input_reader.proofs.read_records.Goals as goal
use Rattle.input_reader.proofs.read_records.Goals.{In_ok-network}

network_read : (c : In_ok-network) → networks.WasRead c.args.octets.now c.in_ok-network.network
network_read c = networks.was_read _ _ c.in_ok-network.ensures

pub returns-in_err-network : goal.returns-in_err-network
returns-in_err-network c =
    let p = err_from_is_err_and c.from_residual.result c.from_residual.ensures.1 in
    rw (p.1, p.2) (records_refused _ _ _ (networks.was_refused _ _ c.in_err-network.ensures))

pub read-requires-2 : goal.read-requires-2
read-requires-2 c =
    let formed = (network_read (goal.at.read-requires-2 c).In_ok-network).well_formed in
    (places_few _ formed, links_some _ formed, links_few _ formed)

pub returns-in_err-plan : goal.returns-in_err-plan
returns-in_err-plan c =
    let p = err_from_is_err_and c.from_residual-in_err-plan.result c.from_residual-in_err-plan.ensures.1 in
    rw (p.1, p.2)
    (records_plan_refused _ _ _ (network_read (goal.at.returns-in_err-plan c).In_ok-network) _ (plans.was_refused _ _ _ _ _ c.in_err-plan.ensures))

pub returns : goal.returns
returns c =
    let read = network_read (goal.at.returns c).In_ok-network in
    records_read _ _ _ read _ (plans.was_read _ _ _ _ (links_some _ read.well_formed) _ c.in_ok-plan.ensures)
