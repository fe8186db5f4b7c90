-- `balances` adds up the blocks at both ends of the links, and compares. Assumes nothing.
use Rattle.network.proofs.Links.{links_few}
use Rattle.soundness.proofs.Tests.{starts_gatherable, ends_gatherable, balanced}
use Rattle.soundness.proofs.balances.Goals as goal

pub links-requires : goal.links-requires
links-requires c = links_few _ c.requires.formed

pub gathered-sums-requires-clause-starts : goal.gathered-sums-requires-clause-starts
gathered-sums-requires-clause-starts c = starts_gatherable _ c.requires.formed c.args.state.now c.requires.fit _ c.links.ensures

pub gathered-sums-requires-clause-ends : goal.gathered-sums-requires-clause-ends
gathered-sums-requires-clause-ends c = ends_gatherable _ c.requires.formed c.args.state.now c.requires.fit _ c.links.ensures

pub returns : goal.returns
returns c =
    λ e. balanced _ c.requires.formed c.args.state.now c.requires.fit _ c.links.ensures _ _ c.gathered-sums.ensures.out c.gathered-sums.ensures.into
    (c.even.ensures e)
