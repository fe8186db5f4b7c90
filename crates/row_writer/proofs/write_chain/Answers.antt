-- `write_chain` meets its contract: one link number a turn, and those from the turn on come later. Assumes nothing.
use native.Mathlib.Omega.{arith}
use Rattle.numbers.proofs.Stages.{stage_none}
use Rattle.row_writer.proofs.Each.{each_writable, each_next, each_all}
use Rattle.row_writer.proofs.write_chain.Goals as goal

pub loop-link-init : goal.loop-link-init
loop-link-init c = stage_none _ _ _ c.requires

pub write_at-at-requires : goal.write_at-at-requires
write_at-at-requires c =
    rw c.from.ensures (each_writable _ _ _ c.requires _ _ _ c.loop-link.invariant c.loop-link-test.true)

pub loop-link-preserved : goal.loop-link-preserved
loop-link-preserved c =
    each_next _ _ _ c.requires _ _ _ c.loop-link.invariant c.loop-link-test.true _ _ (rw (← c.from.ensures) c.write_at-at.ensures)

pub returns : goal.returns
returns c = each_all _ _ _ _ _ _ (omega arith) c.loop-link.invariant
