-- `link_loads::load_at` meets its contract. The loop's invariant: the rates begun, with what the uses still to come put in, are the rates ended
-- and the whole load. Assumes nothing.
use native.Mathlib.Omega.{arith}
use Rattle.link_loads.proofs.AlongChain.{chain_falls, sum_step, sum_end}
use Rattle.link_loads.proofs.load_at.Goals as goal

pub overflow_add-entry : goal.overflow_add-entry
overflow_add-entry c =
    omega (arith, c.row_of-i.ensures, c.args.uses.orderly.firsts_most c.row_of-i.result, c.from.type_inv)

pub overflow_add-entry-in-loop-k : goal.overflow_add-entry-in-loop-k
overflow_add-entry-in-loop-k c =
    let i = c.row_of-i.result in
    omega (arith, c.args.uses.orderly.firsts_most i, c.args.uses.orderly.departures_most i, c.from.type_inv)

pub loop-k-smaller : goal.loop-k-smaller
loop-k-smaller c =
    omega (arith, chain_falls _ c.args.uses.orderly c.loop-k.k c.loop-k-test.true, c.from-k.ensures)

pub loop-k-preserved : goal.loop-k-preserved
loop-k-preserved c =
    let state = c.loop-k in
    let row = c.row_of-i.ensures in
    let lag = c.from.ensures in
    let begun = c.since-begun.ensures in
    let ended = c.since-ended.ensures in
    rw c.from-k.ensures
    (sum_step _ c.args.uses.orderly c.args.start c.args.slot state.begun state.ended state.k state.invariant c.loop-k-test.true
    _ _ (rw (row, lag) at begun.0) (rw (row, lag) at ended.0) begun.1 ended.1)

pub overflow_sub-result : goal.overflow_sub-result
overflow_sub-result c =
    let state = c.loop-k in
    omega (arith, sum_end _ c.args.uses.orderly c.args.start c.args.slot state.begun state.ended state.k state.invariant c.loop-k-test.false)

pub returns : goal.returns
returns c =
    let state = c.loop-k in
    omega (arith, sum_end _ c.args.uses.orderly c.args.start c.args.slot state.begun state.ended state.k state.invariant c.loop-k-test.false)
