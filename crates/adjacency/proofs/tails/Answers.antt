-- `tails` stores the place of each link at the link's number. Assumes nothing.
use Rattle.std.proofs.Common.{arith, length-set, ◌∙◌}
use Rattle.residual.specs.Relax.{tail_of}
use Rattle.adjacency.proofs.Parts.{part_more}
use Rattle.adjacency.proofs.tails.Goals as goal

pub loop-e-preserved : goal.loop-e-preserved
loop-e-preserved c = (
  length-set c.loop-e.places c.loop-e.e c.tail.result ∙ c.loop-e.invariant.0,
  part_more (tail_of c.args.direction) c.args.links.now c.loop-e.places c.loop-e.e c.tail.result c.loop-e-test.true
      (omega (arith, c.requires, c.loop-e.invariant.0)) c.tail.ensures c.loop-e.invariant.1,
)
