-- `write_cut` meets its contract: one number a turn, and those from the turn on come later. Assumes nothing.
use native.Mathlib.Omega.{arith}
use Rattle.numbers.proofs.Stages.{stage_none}
use Rattle.row_writer.proofs.Each.{each_writable, each_next, each_all}
use Rattle.plan_writer.proofs.write_cut.Goals as goal

pub loop-number-init : goal.loop-number-init
loop-number-init c = stage_none _ _ _ c.requires

pub write_at-at-requires : goal.write_at-at-requires
write_at-at-requires c = each_writable _ _ _ c.requires _ _ _ c.loop-number.invariant c.loop-number-test.true

pub loop-number-preserved : goal.loop-number-preserved
loop-number-preserved c =
    each_next _ _ _ c.requires _ _ _ c.loop-number.invariant c.loop-number-test.true _ _ c.write_at-at.ensures

pub returns : goal.returns
returns c = each_all _ _ _ _ _ _ (omega arith) c.loop-number.invariant
