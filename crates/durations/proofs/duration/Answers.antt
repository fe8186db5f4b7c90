-- `durations::duration` meets its contract: the sum so far is what the links so far last. Assumes nothing.
use Prim.Native.Nat.{ℕ, ◌≤◌}
use native.Mathlib.Omega.{arith}
use lib.ListN.{get_or}
use Rattle.limits.specs.Limits.{most_transit}
use Rattle.flows.specs.Network.{no_link}
use Rattle.durations.proofs.Lasting.{lasting_more}
use Rattle.durations.proofs.duration.Goals as goal

pub loop-link-preserved : goal.loop-link-preserved
loop-link-preserved c =
    let state = c.loop-link in
    let j : ℕ = state.link-index in
    let brief : (get_or c.args.table.now c.from-e.result no_link).transit ≤ most_transit = rw c.from-e.ensures (c.requires.brief j c.loop-link-test.true) in
    let more = lasting_more c.args.table.now c.args.links.now j c.loop-link-test.true in
    record { sums = rw c.from-e.ensures (omega (arith, more, state.invariant.sums)); most = omega (arith, brief, state.invariant.most) }
