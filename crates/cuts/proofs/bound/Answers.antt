-- `cuts::bound` meets its contract. The loop's invariant: the sum is the bound over the links passed. Assumes nothing.
use mathlib.Core.Path.{◌≡◌, sym, ap, ap₂, ◌∙◌}
use Prim.Native.Nat.{◌+◌, ◌<◌}
use native.Mathlib.Omega.{arith}
use lib.ListN.{get_or}
use Rattle.flows.specs.Network.{count, no_link}
use Rattle.network.specs.Held.{link_at, model_of}
use Rattle.network.proofs.Model.{count_model, lent_count, lent_link}
use Rattle.network.proofs.Links.{places_few, links_few, start_in, end_in, capacity_most}
use Rattle.cuts.proofs.Links.{bound_below, bound_none, bound_all, bound_more}
use Rattle.cuts.proofs.bound.Goals as goal
use Rattle.cuts.proofs.bound.Goals.{In-loop-link}

-- the link at hand is one of the network's
below : (c : In-loop-link) → c.loop-link.link-index < c.args.network.now.count
below c = omega (arith, lent_count c.args.network.now _ c.links-link-items.ensures, c.loop-link-test.true)

here : (c : In-loop-link) → get_or c.links-link-items.result.now c.loop-link.link-index no_link ≡ link_at c.args.network.now c.loop-link.link-index
here c = lent_link c.args.network.now _ c.links-link-items.ensures c.loop-link.link-index (below c)

-- its ends are places, so the cut has numbers for them
ends : (c : In-loop-link)
    → ((get_or c.links-link-items.result.now c.loop-link.link-index no_link).start < 64)
    × ((get_or c.links-link-items.result.now c.loop-link.link-index no_link).end < 64)
ends c =
    let net = c.args.network.now in
    rw (here c) (
      omega (arith, start_in net c.loop-link.link-index (below c) c.requires, places_few net c.requires),
      omega (arith, end_in net c.loop-link.link-index (below c) c.requires, places_few net c.requires),
    )

pub links-link-items-requires : goal.links-link-items-requires
links-link-items-requires c = links_few c.args.network.now c.requires

pub loop-link-init : goal.loop-link-init
loop-link-init c = record {
  within = omega arith;
  few = omega (arith, links_few c.args.network.now c.requires);
  is = sym (bound_none _ _);
  small = omega arith;
}

pub bounds-cut-b : goal.bounds-cut-b
bounds-cut-b c = (ends (goal.at.bounds-cut-b c).In-loop-link).1

pub bounds-cut-a : goal.bounds-cut-a
bounds-cut-a c = (ends (goal.at.bounds-cut-a c).In-loop-link).0

pub addend-sum-requires : goal.addend-sum-requires
addend-sum-requires c =
    let at = (goal.at.addend-sum-requires c).In-loop-link in
    rw (here at) (capacity_most c.args.network.now c.loop-link.link-index (below at) c.requires)

pub loop-link-preserved : goal.loop-link-preserved
loop-link-preserved c =
    let at = (goal.at.loop-link-preserved c).In-loop-link in
    let added = rw (here at) at c.addend-sum.ensures.is in
    record {
      within = omega (arith, below at);
      few = omega arith;
      is =
          ap₂ ◌+◌ c.loop-link.invariant.is added
          ∙ sym (bound_more c.args.network.now c.args.cut.now c.requires c.loop-link.link-index (below at));
      small = omega (arith, c.addend-sum.ensures.small);
    }

pub returns : goal.returns
returns c =
    let net = c.args.network.now in
    let done : c.loop-link.link-index ≡ count (model_of net) =
    omega (arith, count_model net, lent_count net _ c.links-link-items.ensures, c.loop-link-test.false, c.loop-link.invariant.within) in
    c.loop-link.invariant.is ∙ ap (bound_below _ _) done ∙ bound_all _ _
