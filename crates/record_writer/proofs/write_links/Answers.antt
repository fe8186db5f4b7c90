-- `write_links` meets its contract: one link a turn, and those from the turn on come later. Assumes nothing.
use native.Mathlib.Omega.{arith}
use Rattle.numbers.proofs.Stages.{stage_none}
use Rattle.record_writer.proofs.Recording.{link_writable, link_next, links_all}
use Rattle.record_writer.proofs.write_links.Goals as goal

pub loop-link-init : goal.loop-link-init
loop-link-init c = stage_none _ _ _ c.requires

pub write_four-at-requires : goal.write_four-at-requires
write_four-at-requires c = link_writable _ _ _ c.requires _ _ _ c.loop-link.invariant c.loop-link-test.true

pub loop-link-preserved : goal.loop-link-preserved
loop-link-preserved c = link_next _ _ _ c.requires _ _ _ c.loop-link.invariant c.loop-link-test.true _ _ c.write_four-at.ensures

pub returns : goal.returns
returns c = links_all _ _ _ _ _ _ c.loop-link.invariant (omega arith)
