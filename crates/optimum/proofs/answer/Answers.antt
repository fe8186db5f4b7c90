-- `answer` puts together what the laws of a state for the horizon say. Assumes nothing.
use Prim.Native.Nat.{◌≤◌}
use native.Mathlib.Omega.{arith}
use lib.ListN.{length}
use lib.Seq.{length-take-le}
use Rattle.network.specs.Held.{model_of}
use Rattle.statics.proofs.Sizes.{value_limit}
use Rattle.optimum.proofs.Answers.{cost_most, answered}
use native.Mathlib.Nat.{mul-le-mul}
use Rattle.limits.specs.Limits.{most_cut_number}
use Rattle.optimum.proofs.answer.Goals as goal
use Rattle.optimum.proofs.answer.Goals.{Start}

-- a number is lent for each place, and the state has one
lent : (c : Start) → c.args.network.now.places ≤ length c.args.cut.now
unfolding model_of
lent c = c.requires.enough

held : (c : Start) → c.args.network.now.places ≤ length c.args.state.now.potential
unfolding model_of
held c = omega (arith, c.requires.sound.potentials, c.requires.well_formed.places_most)

pub overflow_mul-sent : goal.overflow_mul-sent
overflow_mul-sent c =
    let s = c.requires in
    let h : c.args.slots ≤ most_cut_number = omega (arith, s.level_is, s.sound.limit) in
    omega (arith, mul-le-mul h (value_limit s.sound.primal_dual.flow s.well_formed))

pub overflow_sub-most : goal.overflow_sub-most
overflow_sub-most c =
    let s = c.requires in
    omega (arith, c.cost.ensures, cost_most s.well_formed s.sound s.level_is)

pub slice_bounds-copy_from_slice-end : goal.slice_bounds-copy_from_slice-end
slice_bounds-copy_from_slice-end c = omega (arith, lent (goal.at.slice_bounds-copy_from_slice-end c).Start)

pub slice_bounds-copy_from_slice-end-2 : goal.slice_bounds-copy_from_slice-end-2
slice_bounds-copy_from_slice-end-2 c = omega (arith, length-take-le _ _ (lent (goal.at.slice_bounds-copy_from_slice-end-2 c).Start))

pub shared_ref_as_front-copy_from_slice : goal.shared_ref_as_front-copy_from_slice
shared_ref_as_front-copy_from_slice c = omega (arith, held (goal.at.shared_ref_as_front-copy_from_slice c).Start, (goal.at.shared_ref_as_front-copy_from_slice c).Start.requires.sound.potentials)

pub copy_from_slice-requires : goal.copy_from_slice-requires
copy_from_slice-requires c =
    let s = (goal.at.copy_from_slice-requires c).Start in
    omega (arith, length-take-le _ _ (lent s), length-take-le _ _ (held s))

pub returns : goal.returns
unfolding model_of
returns c =
    rw c.copy_from_slice.ensures.after
    (answered c.requires.well_formed c.requires.sound c.requires.level_is c.args.cut.now c.requires.enough _ c.cost.ensures)
