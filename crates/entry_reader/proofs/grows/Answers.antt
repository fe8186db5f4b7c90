-- `grows` meets its contract, case by case. Assumes nothing.
use Rattle.std.proofs.Common.{refl}
use Rattle.logs.specs.Record.{grows as growsBy}
use Rattle.entry_reader.proofs.grows.Goals as goal

pub returns-in-Some : goal.returns-in-Some
unfolding growsBy
returns-in-Some c = rw c.in-Some.is c.distance.ensures

pub returns-in-None : goal.returns-in-None
unfolding growsBy
returns-in-None c = rw c.in-None.is refl
