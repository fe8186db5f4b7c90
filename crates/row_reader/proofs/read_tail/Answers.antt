-- `read_tail` meets its contract: each return is one of the ways to read a row's numbers after its links. Assumes nothing.
use lib.ListN.{take}
use Rattle.std.proofs.lemmas.Result.{err_from_is_err_and}
use Rattle.row_reader.proofs.ReadRow.{stops₃, stops₄, stops₅, stops₆, reads_row}
use Rattle.row_reader.proofs.read_tail.Goals as goal

pub returns-in_err-length : goal.returns-in_err-length
returns-in_err-length c =
    let p = err_from_is_err_and c.from_residual.result c.from_residual.ensures.1 in
    rw (p.1, p.2) (stops₃ c.args.s.now c.args.at (take c.args.count c.args.links) _ c.in_err-length.ensures)

pub returns-in_err-rate : goal.returns-in_err-rate
returns-in_err-rate c =
    let p = err_from_is_err_and c.from_residual-in_err-rate.result c.from_residual-in_err-rate.ensures.1 in
    rw (p.1, p.2)
    (stops₄ c.args.s.now c.args.at (take c.args.count c.args.links) _ c.in_ok-length.ensures _ c.in_err-rate.ensures)

pub returns-in_err-first : goal.returns-in_err-first
returns-in_err-first c =
    let p = err_from_is_err_and c.from_residual-in_err-first.result c.from_residual-in_err-first.ensures.1 in
    rw (p.1, p.2)
    (stops₅ c.args.s.now c.args.at (take c.args.count c.args.links) _ c.in_ok-length.ensures _ c.in_ok-rate.ensures _ c.in_err-first.ensures)

pub returns-in_err-departures : goal.returns-in_err-departures
returns-in_err-departures c =
    let p = err_from_is_err_and c.from_residual-in_err-departures.result c.from_residual-in_err-departures.ensures.1 in
    rw (p.1, p.2)
    (stops₆ c.args.s.now c.args.at (take c.args.count c.args.links) _ c.in_ok-length.ensures _ c.in_ok-rate.ensures _ c.in_ok-first.ensures
    _ c.in_err-departures.ensures)

pub returns : goal.returns
returns c =
    reads_row c.args.s.now c.args.at (take c.args.count c.args.links) _ c.in_ok-length.ensures _ c.in_ok-rate.ensures _ c.in_ok-first.ensures
    _ c.in_ok-departures.ensures _ _ c.requires
