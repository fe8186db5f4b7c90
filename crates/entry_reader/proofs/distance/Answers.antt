-- `distance` meets its contract: a wrapping subtraction is the distance. Assumes nothing.
use Rattle.std.proofs.Common.{arith}
use Rattle.logs.specs.Record.{distance as distanceOf}
use Rattle.entry_reader.proofs.distance.Goals as goal

pub returns : goal.returns
unfolding distanceOf
returns c = omega arith
