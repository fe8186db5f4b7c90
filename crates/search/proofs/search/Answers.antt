-- `search` hands its turns to the laws of `Turns`: what a callee ensures is what the next law asks for. Assumes nothing.
use Rattle.std.proofs.Common.{arith, refl}
use Rattle.network.specs.Held.{model_of}
use Rattle.residual.specs.Tree.{Searchable}
use Rattle.residual.proofs.Turns.{Task}
use Rattle.residual.proofs.Turns.{places_most, places_least, origin_in, settled_most}
use Rattle.residual.proofs.Turns.{go_begin, go_found, out_asks, in_asks, go_lowest, go_lost, go_on}
use Rattle.residual.specs.declared.Residual.{Residual}
use Rattle.residual.specs.Index.{Indexed}
use Rattle.search.proofs.search.Goals as goal

abbrev task : (r : Residual)
    → Searchable (model_of r.network.now) r.flow.now r.potential.now × Indexed (model_of r.network.now) r.index.now → Task
task r asked = record {
  network = r.network.now;
  index = r.index.now;
  flow = r.flow.now;
  potential = r.potential.now;
  searchable = asked.0;
  indexed = asked.1;
}

pub bounds-labels-u : goal.bounds-labels-u
bounds-labels-u c = origin_in (task c.args.residual c.requires)

pub bounds-rank-u : goal.bounds-rank-u
bounds-rank-u c = origin_in (task c.args.residual c.requires)

pub loop-u-init : goal.loop-u-init
loop-u-init c =
    let t = task c.args.residual c.requires in
    (places_most t, go_begin t _ _ _ _ _ refl refl refl refl refl)

pub relax_place-requires-clause-along : goal.relax_place-requires-clause-along
relax_place-requires-clause-along c =
    let t = task c.args.residual c.requires in
    out_asks t _ _ _ _ c.loop-u.invariant.1

pub relax_place-requires-clause-against : goal.relax_place-requires-clause-against
relax_place-requires-clause-against c =
    let t = task c.args.residual c.requires in
    in_asks t _ _ _ _ c.loop-u.invariant.1

pub nearest-u-requires : goal.nearest-u-requires
nearest-u-requires c =
    let t = task c.args.residual c.requires in
    (places_least t, places_most t, go_lowest t _ _ _ _ c.loop-u.invariant.1 _ c.relax_place.ensures)

pub returns-then-labels-u-eq-FAR : goal.returns-then-labels-u-eq-FAR
returns-then-labels-u-eq-FAR c =
    let t = task c.args.residual c.requires in
    rw c.ended.ensures
    (go_lost t _ _ _ _ c.loop-u.invariant.1 _ c.relax_place.ensures c.loop-u-test.true c.nearest-u.result c.nearest-u.ensures.0 c.nearest-u.ensures.1
    c.if-labels-u-eq-FAR.true)

pub loop-u-smaller : goal.loop-u-smaller
loop-u-smaller c =
    let t = task c.args.residual c.requires in
    omega (arith, settled_most t _ _ _ _ (go_on t _ _ _ _ c.loop-u.invariant.1 _ c.relax_place.ensures c.loop-u-test.true c.nearest-u.result c.nearest-u.ensures.0 c.nearest-u.ensures.1 c.if-labels-u-eq-FAR.false))

pub loop-u-preserved : goal.loop-u-preserved
loop-u-preserved c =
    let t = task c.args.residual c.requires in
    (c.loop-u.invariant.0, go_on t _ _ _ _ c.loop-u.invariant.1 _ c.relax_place.ensures c.loop-u-test.true c.nearest-u.result c.nearest-u.ensures.0 c.nearest-u.ensures.1 c.if-labels-u-eq-FAR.false)

pub returns : goal.returns
returns c =
    let t = task c.args.residual c.requires in
    rw c.ended-2.ensures (go_found t _ _ _ _ c.loop-u.invariant.1 c.loop-u-test.false)
