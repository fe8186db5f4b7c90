-- `record_length` meets its contract: a link adds its four numbers' octets. Assumes nothing.
use native.Mathlib.Omega.{arith}
use Rattle.record_writer.proofs.Recording.{head_fit, few_links, link_fit, sized_none, sized_next, sized_all}
use Rattle.network_writer.proofs.record_length.Goals as goal

pub four_length-size-requires : goal.four_length-size-requires
four_length-size-requires c = head_fit _ c.requires

pub links-link-items-requires : goal.links-link-items-requires
links-link-items-requires c = few_links _ c.requires

pub loop-link-init : goal.loop-link-init
loop-link-init c = sized_none _ _ _ c.links-link-items.ensures c.four_length-size.ensures.0 c.four_length-size.ensures.1

pub four_length-size-requires-in-loop-link : goal.four_length-size-requires-in-loop-link
four_length-size-requires-in-loop-link c = link_fit _ c.requires _ _ c.links-link-items.ensures c.loop-link-test.true

pub loop-link-preserved : goal.loop-link-preserved
loop-link-preserved c =
    sized_next _ _ _ _ _ c.loop-link.invariant c.loop-link-test.true c.four_length-size-in-loop-link.ensures.0 c.four_length-size-in-loop-link.ensures.1

pub returns : goal.returns
returns c = sized_all _ _ _ _ c.loop-link.invariant (omega arith)
