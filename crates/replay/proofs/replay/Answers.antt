-- `replay::replay` meets its contract: what the two readers, the two tests and the figure ensure, put together. Assumes nothing.
use Rattle.std.proofs.Common.{◌≡◌, [], sym, ◌∙◌}
use Rattle.std.proofs.lemmas.Result.{err_from_is_err_and}
use Rattle.numbers.specs.Field.{accepted}
use Rattle.network.proofs.Links.{links_some, links_few}
use Rattle.network.proofs.Answers as networks
use Rattle.logs.specs.Record.{read_log}
use Rattle.logs.specs.Columns.{Given}
use Rattle.log_reader.proofs.Answers as logs
use Rattle.replay.proofs.Answers.{promised, replayed_refused, replayed_log_refused, found_1, found_2, found_0}
use Rattle.replay.proofs.replay.Goals as goal
use Rattle.replay.proofs.replay.Goals.{In_ok-network, In_ok-taken, After-entries}

-- what was read, where it was accepted
network_read : (c : In_ok-network) → networks.WasRead c.args.octets.now c.in_ok-network.network
network_read c = networks.was_read c.args.octets.now c.in_ok-network.network c.in_ok-network.ensures

log_read : (c : In_ok-taken) → logs.WasRead c.in_ok-network.network.count c.args.log.now c.in_ok-taken.taken
log_read c =
    logs.was_read c.in_ok-network.network.count c.args.log.now (links_some _ (network_read (goal.at.In_ok-taken c).In_ok-network).well_formed)
    c.in_ok-taken.taken c.in_ok-taken.ensures

entries_read : (c : After-entries)
    → read_log c.in_ok-network.network.count c.args.log.now ≡ accepted c.entries.result.now []
entries_read c = rw c.entries.ensures (log_read (goal.at.After-entries c).In_ok-taken).reads

entries_given : (c : After-entries) → Given c.in_ok-network.network.count c.entries.result.now
entries_given c = rw c.entries.ensures (log_read (goal.at.After-entries c).In_ok-taken).given

pub returns-in_err-network : goal.returns-in_err-network
returns-in_err-network c =
    let p = err_from_is_err_and c.from_residual.result c.from_residual.ensures.1 in
    let e =
    replayed_refused c.args.octets.now c.args.log.now _ (networks.was_refused c.args.octets.now _ c.in_err-network.ensures) in
    rw (p.1, p.2) (record { answer = e; numbers = promised _ _ _ e })

pub read-requires-2 : goal.read-requires-2
read-requires-2 c =
    let net = network_read (goal.at.read-requires-2 c).In_ok-network in
    (links_some _ net.well_formed, links_few _ net.well_formed)

pub returns-in_err-taken : goal.returns-in_err-taken
returns-in_err-taken c =
    let p = err_from_is_err_and c.from_residual-in_err-taken.result c.from_residual-in_err-taken.ensures.1 in
    let net = network_read (goal.at.returns-in_err-taken c).In_ok-network in
    let e = replayed_log_refused _ _ _ net _ (logs.was_refused _ _ _ c.in_err-taken.ensures) in
    rw (p.1, p.2) (record { answer = e; numbers = promised _ _ _ e })

pub entries-requires : goal.entries-requires
entries-requires c = (log_read (goal.at.entries-requires c).In_ok-taken).few

pub invariant_of-logged : goal.invariant_of-logged
invariant_of-logged c =
    let k = goal.at.invariant_of-logged c in
    record { formed = (network_read k.In_ok-network).well_formed; given = entries_given k.After-entries }

pub returns-then-overfull : goal.returns-then-overfull
returns-then-overfull c =
    let k = goal.at.returns-then-overfull c in
    let e =
    found_1 c.args.octets.now c.args.log.now c.in_ok-network.network (network_read k.In_ok-network) _ (entries_read k.After-entries)
    (sym c.overfull.ensures ∙ c.if-overfull.true) in
    record { answer = e; numbers = promised _ _ _ e }

pub returns-then-oversent : goal.returns-then-oversent
returns-then-oversent c =
    let k = goal.at.returns-then-oversent c in
    let e =
    found_2 c.args.octets.now c.args.log.now c.in_ok-network.network (network_read k.In_ok-network) _ (entries_read k.After-entries)
    (sym c.overfull.ensures ∙ c.if-overfull.false) (sym c.oversent.ensures ∙ c.if-oversent.true) in
    record { answer = e; numbers = promised _ _ _ e }

pub returns : goal.returns
returns c =
    let k = goal.at.returns c in
    let e =
    found_0 c.args.octets.now c.args.log.now c.in_ok-network.network (network_read k.In_ok-network) _ (entries_read k.After-entries)
    (sym c.overfull.ensures ∙ c.if-overfull.false) _ (c.from.ensures ∙ c.delivered-delivered.ensures) (sym c.oversent.ensures ∙ c.if-oversent.false) in
    record { answer = e; numbers = promised _ _ _ e }
