-- `sweeps::sweep` meets its contract. The loop's invariant: what has begun and what has ended by the starts passed, none of which was over.
-- Assumes nothing.
use native.Mathlib.Omega.{arith}
use Rattle.sweeps.proofs.InOrder.{sweep_ending, sweep_step, sweep_found, sweep_end}
use Rattle.sweeps.proofs.sweep.Goals as goal

pub ended_by-ended-requires-clause-ending : goal.ended_by-ended-requires-clause-ending
ended_by-ended-requires-clause-ending c =
    let state = c.loop-number in
    let sorted = c.requires.sorted in
    rw (c.requires.rated.0, c.requires.as_many_ends.0, c.of-slot.ensures)
    (sweep_ending _ _ _ _ _ _ _ _ sorted.0 sorted.1 state.begun state.ended state.number-index state.invariant c.loop-number-test.true)

pub returns-then-from-ended : goal.returns-then-from-ended
returns-then-from-ended c =
    let state = c.loop-number in
    let sorted = c.requires.sorted in
    let rate = c.rate_of-begun in
    let ended = c.ended_by-ended in
    sweep_found _ _ _ _ _ _ _ _ sorted.0 sorted.1 state.begun state.ended state.number-index state.invariant
    c.loop-number-test.true rate.result rate.ensures.0 ended.result
    (rw (c.requires.rated.0, c.requires.as_many_ends.0, c.of-slot.ensures) at ended.ensures)
    (omega (arith, c.if-from-ended.true, c.from.ensures))

pub loop-number-preserved : goal.loop-number-preserved
loop-number-preserved c =
    let state = c.loop-number in
    let sorted = c.requires.sorted in
    let rate = c.rate_of-begun in
    let ended = c.ended_by-ended in
    sweep_step _ _ _ _ _ _ _ _ sorted.0 sorted.1 state.begun state.ended state.number-index state.invariant
    c.loop-number-test.true rate.result rate.ensures.0 ended.result
    (rw (c.requires.rated.0, c.requires.as_many_ends.0, c.of-slot.ensures) at ended.ensures)
    rate.ensures.1 (omega (arith, c.if-from-ended.false, c.from.ensures))

pub returns : goal.returns
returns c =
    let state = c.loop-number in
    let sorted = c.requires.sorted in
    sweep_end _ _ _ _ _ _ _ _ sorted.0 sorted.1 state.begun state.ended state.number-index state.invariant c.loop-number-test.false
