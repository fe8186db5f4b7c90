-- `trace` fills the path in from the destination back, a link a turn. Assumes nothing.
use Rattle.std.proofs.Common.{◌∙◌, refl, sym, subst, arith}
use lib.ListN.{replicate}
use Rattle.network.specs.Held.{model_of}
use Rattle.network.proofs.Model.{origin_model, destination_model}
use Rattle.routes.proofs.Trails.{Traced, traced_none, traced_route}
use Rattle.routes.proofs.Turn.{room, few, start-few, next, falls}
use Rattle.routes.proofs.finding.trace.Goals as goal

pub loop-place-init : goal.loop-place-init
loop-place-init c =
    let n = c.args.network.now in (
      subst (Traced (model_of n) c.args.tree.now (replicate 63 0) 63) (destination_model n)
          (traced_none (model_of n) c.args.tree.now c.requires (replicate 63 0) refl),
      omega (arith, c.requires.sized.connects.destination_in, destination_model n, c.requires.sized.places_most),
    )

pub overflow_sub-first : goal.overflow_sub-first
overflow_sub-first c = room c.args.network.now c.requires c.loop-place.invariant.0 c.loop-place-test.true

pub overflow_cast-links : goal.overflow_cast-links
overflow_cast-links c = omega (arith, few c.args.network.now c.requires c.loop-place.invariant.0 c.loop-place-test.true)

pub bounds-links-first : goal.bounds-links-first
bounds-links-first c = omega (arith, c.loop-place.invariant.0.fits, room c.args.network.now c.requires c.loop-place.invariant.0 c.loop-place-test.true)

pub bounds-network-e : goal.bounds-network-e
bounds-network-e c = few c.args.network.now c.requires c.loop-place.invariant.0 c.loop-place-test.true

pub loop-place-smaller : goal.loop-place-smaller
loop-place-smaller c = falls c.args.network.now c.requires c.loop-place.invariant.0 c.loop-place-test.true

pub loop-place-preserved : goal.loop-place-preserved
loop-place-preserved c =
    (next c.args.network.now c.requires c.loop-place.invariant.0 c.loop-place-test.true, start-few c.args.network.now c.requires c.loop-place.invariant.0 c.loop-place-test.true)

pub returns : goal.returns
returns c =
    let n = c.args.network.now in
    record {
      size = c.loop-place.invariant.0.size;
      first = c.loop-place.invariant.0.fits;
      route = traced_route (model_of n) c.args.tree.now c.requires _ _ _ c.loop-place.invariant.0 (c.loop-place-test.false ∙ sym (origin_model n));
    }
