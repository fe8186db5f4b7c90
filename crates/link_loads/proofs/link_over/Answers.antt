-- `link_loads::link_over` meets its contract. The loop's invariant: no use passed is over. Assumes nothing.
use native.Mathlib.Omega.{arith}
use Rattle.link_loads.proofs.AlongChain.{chain_falls, pass_start, pass_found, pass_step, pass_end}
use Rattle.link_loads.proofs.link_over.Goals as goal

pub loop-k-init : goal.loop-k-init
loop-k-init c = pass_start _ c.args.uses.orderly _ _

pub returns-then-from-load : goal.returns-then-from-load
returns-then-from-load c =
    let state = c.loop-k in
    let slot = c.of-slot.ensures in
    let called = c.load_at-load in
    pass_found _ c.args.uses.orderly c.args.capacity c.args.start state.k state.invariant c.loop-k-test.true
    called.result (rw slot at called.ensures) (omega (arith, c.if-from-load.true))

pub loop-k-smaller : goal.loop-k-smaller
loop-k-smaller c =
    omega (arith, chain_falls _ c.args.uses.orderly c.loop-k.k c.loop-k-test.true, c.from-k.ensures)

pub loop-k-preserved : goal.loop-k-preserved
loop-k-preserved c =
    let state = c.loop-k in
    let slot = c.of-slot.ensures in
    let load = c.load_at-load in
    rw c.from-k.ensures
    (pass_step _ c.args.uses.orderly c.args.capacity c.args.start state.k state.invariant c.loop-k-test.true
    load.result (rw slot at load.ensures) (omega (arith, c.if-from-load.false)))

pub returns : goal.returns
returns c =
    let state = c.loop-k in
    pass_end _ c.args.uses.orderly c.args.capacity c.args.start state.k state.invariant c.loop-k-test.false
