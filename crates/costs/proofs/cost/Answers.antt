-- `cost` adds what one link holds in a turn, by the laws of the sum. Assumes nothing.
use native.Mathlib.Omega.{arith}
use Rattle.costs.proofs.Weigh.{few, in_array, weigh_step, weigh_end}
use Rattle.costs.proofs.cost.Goals as goal

pub links-link-items-requires : goal.links-link-items-requires
links-link-items-requires c = few _ _ c.requires

pub bounds-state-e : goal.bounds-state-e
bounds-state-e c = omega (arith, in_array _ _ c.requires _ c.links-link-items.ensures _ c.loop-e-test.true)

pub loop-e-preserved : goal.loop-e-preserved
loop-e-preserved c =
    rw (c.from.ensures, c.from-in-loop-e.ensures)
    (weigh_step _ _ c.requires _ c.links-link-items.ensures _ _ c.loop-e.invariant c.loop-e-test.true)

pub returns : goal.returns
returns c = weigh_end _ _ c.requires _ c.links-link-items.ensures _ _ c.loop-e.invariant c.loop-e-test.false
