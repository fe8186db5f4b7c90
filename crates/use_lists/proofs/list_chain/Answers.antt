-- `use_lists::list_chain` meets its contract. The loop's invariant: what is listed and the chain still to come are the chain. Assumes nothing.
use mathlib.Core.Path.{refl, ◌∙◌}
use Prim.Native.Nat.{◌-◌}
use native.Mathlib.Omega.{arith}
use lib.ListN.{length-set}
use Rattle.use_lists.proofs.Listing.{list_start, list_step, list_end}
use Rattle.use_lists.proofs.list_chain.Goals as goal

pub loop-k-init : goal.loop-k-init
loop-k-init c =
    record { within = omega arith; size = refl; listing = list_start c.args.prev.now c.requires.falling c.args.start _ }

pub shape_of-order-then-count-order : goal.shape_of-order-then-count-order
shape_of-order-then-count-order c = c.loop-k.invariant.size

pub overflow_cast-order : goal.overflow_cast-order
overflow_cast-order c = omega (arith, c.loop-k.invariant.listing.within)

pub bounds-prev-at : goal.bounds-prev-at
bounds-prev-at c = omega (arith, c.loop-k.invariant.listing.within)

pub loop-k-smaller : goal.loop-k-smaller
loop-k-smaller c =
    let state = c.loop-k in
    omega (arith, c.requires.falling (state.k - 1), c.from-k.ensures, c.loop-k-test.true)

pub loop-k-preserved : goal.loop-k-preserved
loop-k-preserved c =
    let state = c.loop-k in
    record {
      within = omega (arith, c.if-count-order.false, state.invariant.within);
      size = length-set state.order state.count (state.k - 1) ∙ state.invariant.size;
      listing =
          rw c.from-k.ensures
          (list_step c.args.prev.now c.requires.falling c.args.start state.order state.count state.k state.invariant.listing
          c.loop-k-test.true (omega (arith, c.if-count-order.false, state.invariant.within, state.invariant.size)));
    }

pub shape_of-order : goal.shape_of-order
shape_of-order c = c.loop-k.invariant.size

pub returns : goal.returns
returns c =
    let state = c.loop-k in (
      omega (arith, state.invariant.within),
      list_end c.args.prev.now c.requires.falling c.args.start state.order state.count state.k state.invariant.listing c.loop-k-test.false,
    )
