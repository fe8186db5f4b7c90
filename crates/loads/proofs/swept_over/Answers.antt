-- `loads::swept_over` meets its contract: sorted or copied, the numbers are still those of the chain, and the sweep tells of them. Assumes nothing.
use mathlib.Core.Path.{◌≡◌, ap}
use Prim.Native.Nat.{◌≤◌}
use native.Mathlib.Omega.{arith}
use lib.ListN.{length, length-take}
use Rattle.use_lists.specs.Lists.{Listed}
use Rattle.use_lists.proofs.Listing.{listed_copy}
use Rattle.loads.proofs.Lists.{listed_sorted, listed_again}
use Rattle.loads.proofs.swept_over.Goals as goal

pub sort-requires-2 : goal.sort-requires-2
sort-requires-2 c =
    let both : (c.in-Some.count ≤ length c.args.starts.now) × Listed c.args.uses.prev.now c.args.start c.list_chain.new.order c.in-Some.count =
    c.in-Some.ensures in
    let starts = listed_sorted _ _ c.list_chain.new.order c.in-Some.count (omega arith) both.1 c.sort.new.order c.sort.auto.order c.sort.ensures.same in
    let copied = listed_copy _ _ _ _ _ c.copy.ensures starts in
    let size : length c.copy.new.to ≡ length c.sort.new.order =
    omega (
      arith,
      c.copy.auto.to,
      c.sort.auto.order,
      length-take c.in-Some.count c.list_chain.new.order,
      length-take c.in-Some.count c.args.ends.now,
    ) in
    λ i h. omega (arith, copied.below i (omega (arith, size)), c.args.uses.room.for_lags, ap length c.requires.lasts_of.1)

pub sweep-requires-clause-starts_are_uses : goal.sweep-requires-clause-starts_are_uses
sweep-requires-clause-starts_are_uses c =
    let both : (c.in-Some.count ≤ length c.args.starts.now) × Listed c.args.uses.prev.now c.args.start c.list_chain.new.order c.in-Some.count =
    c.in-Some.ensures in
    let starts = listed_sorted _ _ c.list_chain.new.order c.in-Some.count (omega arith) both.1 c.sort.new.order c.sort.auto.order c.sort.ensures.same in (
      omega (arith, c.sort.auto.order, length-take c.in-Some.count c.list_chain.new.order),
      λ i h. omega (arith, starts.below i h, c.args.uses.room.for_lags),
    )

pub sweep-requires-clause-as_many_ends : goal.sweep-requires-clause-as_many_ends
sweep-requires-clause-as_many_ends c =
    let both : (c.in-Some.count ≤ length c.args.starts.now) × Listed c.args.uses.prev.now c.args.start c.list_chain.new.order c.in-Some.count =
    c.in-Some.ensures in
    let starts = listed_sorted _ _ c.list_chain.new.order c.in-Some.count (omega arith) both.1 c.sort.new.order c.sort.auto.order c.sort.ensures.same in
    let size : length c.copy.new.to ≡ length c.sort.new.order =
    omega (
      arith,
      c.copy.auto.to,
      c.sort.auto.order,
      length-take c.in-Some.count c.list_chain.new.order,
      length-take c.in-Some.count c.args.ends.now,
    ) in
    let ends = listed_again _ _ c.sort.new.order c.copy.new.to c.sort-2.new.order starts size c.copy.ensures c.sort-2.ensures.same in (
      omega (arith, c.sort-2.auto.order, size),
      λ i h. omega (arith, ends.below i (omega (arith, c.sort-2.auto.order, size)), c.args.uses.room.for_lags),
    )

pub sweep-requires-clause-sorted : goal.sweep-requires-clause-sorted
sweep-requires-clause-sorted c =
    let both : (c.in-Some.count ≤ length c.args.starts.now) × Listed c.args.uses.prev.now c.args.start c.list_chain.new.order c.in-Some.count =
    c.in-Some.ensures in
    let size : length c.copy.new.to ≡ length c.sort.new.order =
    omega (
      arith,
      c.copy.auto.to,
      c.sort.auto.order,
      length-take c.in-Some.count c.list_chain.new.order,
      length-take c.in-Some.count c.args.ends.now,
    ) in (
      rw (← c.sort.auto.order) at c.sort.ensures.sorted,
      rw (size, c.requires.lasts_of.1) at c.sort-2.ensures.sorted,
    )

pub returns : goal.returns
returns c =
    let both : (c.in-Some.count ≤ length c.args.starts.now) × Listed c.args.uses.prev.now c.args.start c.list_chain.new.order c.in-Some.count =
    c.in-Some.ensures in
    let starts = listed_sorted _ _ c.list_chain.new.order c.in-Some.count (omega arith) both.1 c.sort.new.order c.sort.auto.order c.sort.ensures.same in
    let size : length c.copy.new.to ≡ length c.sort.new.order =
    omega (
      arith,
      c.copy.auto.to,
      c.sort.auto.order,
      length-take c.in-Some.count c.list_chain.new.order,
      length-take c.in-Some.count c.args.ends.now,
    ) in
    let ends = listed_again _ _ c.sort.new.order c.copy.new.to c.sort-2.new.order starts size c.copy.ensures c.sort-2.ensures.same in
    c.sweep.ensures _ _ _ c.requires.start_in_room c.args.uses.orderly c.requires.lasts_of.0 starts ends
