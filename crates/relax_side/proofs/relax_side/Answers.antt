-- `relax_side` goes along the chain: at each link it is known that the link can be relaxed, since the chain ahead is part of the chain. What is
-- offered is compared with what the head has. Assumes nothing.
use Rattle.std.proofs.Common.{◌-◌, get_or, arith}
use Rattle.residual.specs.Relax.{Side, side_of, first_of}
use Rattle.residual.proofs.Relax.{RelaxedTo, relaxed_none, relaxed_end, relaxed_stored, relaxed_left, usable, few_ahead}
use Rattle.relax_side.proofs.relax_side.Goals as goal
use Rattle.relax_side.proofs.relax_side.Goals.{then-least-labels, else-least-labels}

pub loop-at-init : goal.loop-at-init
loop-at-init c =
    let w = relaxed_none (side_of c.args.side) (first_of c.args.side) c.args.labels.now in
    (few_ahead c.requires w, w)

pub bounds-side-w : goal.bounds-side-w
bounds-side-w c = rw c.head-head.ensures (usable c.requires c.loop-at.invariant.1 c.loop-at-test.true).leads

pub bounds-labels-w : goal.bounds-labels-w
bounds-labels-w c = rw c.head-head.ensures (usable c.requires c.loop-at.invariant.1 c.loop-at-test.true).leads

pub offer-least-requires : goal.offer-least-requires
offer-least-requires c =
    let u = usable c.requires c.loop-at.invariant.1 c.loop-at-test.true in
    record { distance_most = c.requires.place_most; transit_most = u.transit_most; priced = rw c.head-head.ensures u.priced }

pub loop-at-smaller : goal.loop-at-smaller
loop-at-smaller c = omega (arith, (usable c.requires c.loop-at.invariant.1 c.loop-at-test.true).falls)

pub loop-at-preserved : goal.loop-at-preserved
loop-at-preserved c =
    let l = c.loop-at in
    let S : Side = side_of c.args.side in
    let w : RelaxedTo S (first_of c.args.side) c.args.labels.now c.if-least-labels.labels (get_or S.next (l.at - 1) 0) =
    elim c.if-least-labels.branch [
      | then-least-labels w ↦
          relaxed_stored S (first_of c.args.side) c.args.labels.now c.requires l.labels _ l.at c.loop-at-test.true l.invariant.1 _ _ c.head-head.ensures (rw c.head-head.ensures at c.offer-least.ensures)
          _ w.arc_of.ensures w.if-least-labels.true w.labels-is
      | else-least-labels w ↦
          relaxed_left S (first_of c.args.side) c.args.labels.now c.requires l.labels _ l.at c.loop-at-test.true l.invariant.1 _ _ c.head-head.ensures (rw c.head-head.ensures at c.offer-least.ensures)
          w.if-least-labels.false w.labels-is
    ] in
    (few_ahead c.requires w, w)

pub returns : goal.returns
returns c = relaxed_end _ _ _ _ c.loop-at.at (omega (arith, c.loop-at-test.false)) c.loop-at.invariant.1
