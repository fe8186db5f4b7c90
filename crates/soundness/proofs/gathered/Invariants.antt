-- `gathered` adds one link's blocks in a turn, at the places of the link's ends. Assumes nothing.
use Rattle.soundness.proofs.Tests.{GatheringBoth}
use Rattle.soundness.proofs.gathered.Given as goal

abbrev pub invariant-loop-e : goal.invariant-loop-e
invariant-loop-e l = GatheringBoth l.links l.blocks l.out l.into l.e
