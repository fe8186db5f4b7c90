-- Safety of `of_most`. Assumes nothing.
use native.Mathlib.Omega.{arith}
use Rattle.states.proofs.Held.{destination_place}
use Rattle.hint_probe.proofs.of_most.Goals as goal

pub bounds-proposed-destination : goal.bounds-proposed-destination
bounds-proposed-destination c = omega (arith, destination_place _ c.args.graph.now.formed)
