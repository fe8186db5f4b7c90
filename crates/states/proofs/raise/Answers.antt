-- `raise` stores one place's potential in a turn: the first v places are raised, the others as they were. Assumes nothing.
use mathlib.Core.Path.{◌≡◌, refl, sym, ◌∙◌}
use native.Mathlib.Omega.{arith}
use Rattle.limits.specs.Limits.{most_places}
use Rattle.states.specs.State.{raised}
use Rattle.states.specs.Steps.{raised_by}
use Rattle.states.proofs.Splice.{spliced_all}
use Rattle.states.proofs.Raised.{same_state, length_raised, raise_step}
use Rattle.states.proofs.raise.Goals as goal

pub loop-v-init : goal.loop-v-init
loop-v-init c = record { flow = refl; value = refl; potential = refl }

pub overflow_add-next : goal.overflow_add-next
overflow_add-next c =
    omega (
      arith,
      c.min.ensures,
      c.requires.potential_most c.loop-v.v,
      c.requires.by_most,
    )

pub loop-v-preserved : goal.loop-v-preserved
loop-v-preserved c =
    let v = c.loop-v.v in
    let r = c.loop-v.invariant in
    record {
      flow = r.flow;
      value = r.value;
      potential = rw (r.potential, c.min.ensures)
          (raise_step c.args.by c.args.state.now.potential c.args.tree.now.distance v c.requires.potentials c.requires.distances
          c.loop-v-test.true);
    }

pub returns : goal.returns
unfolding raised_by
returns c =
    let r = c.loop-v.invariant in
    let e : c.loop-v.v ≡ most_places = omega arith in
    same_state c.loop-v.next (raised_by c.args.by c.args.state.now c.args.tree.now) r.flow r.value
    ((rw e at r.potential)
    ∙ spliced_all most_places (raised c.args.by c.args.state.now.potential c.args.tree.now.distance) c.args.state.now.potential
    (sym (length_raised c.args.by c.args.state.now.potential c.args.tree.now.distance ∙ c.requires.potentials)) (sym c.requires.potentials))
