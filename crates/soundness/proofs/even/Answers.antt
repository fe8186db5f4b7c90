-- `even` compares one place in a turn: the places passed are even. Assumes nothing.
use Rattle.flows.proofs.Sums.{only_most}
use native.Mathlib.Omega.{arith}
use Rattle.soundness.proofs.even.Goals as goal

pub overflow_add-leaves : goal.overflow_add-leaves
overflow_add-leaves c = omega (arith, c.at.ensures, only_most c.args.destination c.loop-u.u c.args.value, c.requires)

pub overflow_add-arrives : goal.overflow_add-arrives
overflow_add-arrives c = omega (arith, c.at-in-loop-u.ensures, only_most c.args.origin c.loop-u.u c.args.value, c.requires)
