-- `gathered` adds one link's blocks in a turn, at the places of the link's ends. Assumes nothing.
use mathlib.Core.Path.{refl}
use Rattle.soundness.proofs.Tests.{gather_begin, gather_step}
use Rattle.soundness.proofs.gathered.Goals as goal

pub loop-e-init : goal.loop-e-init
loop-e-init c = record { starts = gather_begin _ _ _ _ refl; ends = gather_begin _ _ _ _ refl }

pub loop-e-preserved : goal.loop-e-preserved
loop-e-preserved c = record {
  starts = gather_step _ _ _ c.requires.starts _ _ c.loop-e.invariant.starts c.loop-e-test.true;
  ends = gather_step _ _ _ c.requires.ends _ _ c.loop-e.invariant.ends c.loop-e-test.true;
}
