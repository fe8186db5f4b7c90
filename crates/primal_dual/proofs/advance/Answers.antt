-- `advance` raises by the reach and augments where the limit has room for it, and else raises to the limit: the laws of a step.
-- Assumes nothing.
use native.Mathlib.Omega.{arith}
use Rattle.network.specs.Held.{model_of}
use Rattle.states.proofs.Held.{destination_place}
use Rattle.states.proofs.Steps.{augmentable}
use Rattle.primal_dual.proofs.Steps.{augment_stepped, raise_stepped}
use Rattle.primal_dual.proofs.advance.Goals as goal

pub bounds-state-destination : goal.bounds-state-destination
bounds-state-destination c = omega (arith, destination_place _ c.requires.steppable.well_formed)

pub augment-requires : goal.augment-requires
unfolding model_of
augment-requires c =
    let s = c.requires in
    rw c.raise-next.ensures (augmentable s.steppable s.searched c.if-reach-room.true)

pub returns-then-reach-room : goal.returns-then-reach-room
unfolding model_of
returns-then-reach-room c =
    let s = c.requires in
    augment_stepped s.steppable s.searched c.if-reach-room.true (rw c.raise-next.ensures at c.augment.ensures)

pub returns : goal.returns
unfolding model_of
returns c =
    let s = c.requires in
    rw c.raise.ensures (raise_stepped s.steppable s.searched c.if-reach-room.false)
