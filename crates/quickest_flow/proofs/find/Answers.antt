-- `quickest_flow::find` meets its contract: each turn begins with a state that is too short for the amount, and the value that a turn
-- leaves is above the one before, and within all capacities. Assumes nothing.
use native.Mathlib.Omega.{arith}
use Rattle.statics.proofs.Sizes.{value_limit}
use Rattle.quickest_flow.proofs.find.Goals as goal

pub loop-quickest-smaller : goal.loop-quickest-smaller
loop-quickest-smaller c =
    let (next, grows) = c.in-Continue.ensures in
    omega (arith, grows, value_limit next.sound.primal_dual.flow c.args.graph.now.formed)
