-- `entries` meets its contract: the entries up to the count are the log that the struct holds. Assumes nothing.
use mathlib.Core.Path.{refl}
use Rattle.log_reader.specs.Held.{model_of}
use Rattle.log_reader.proofs.Log.entries.Goals as goal

pub returns : goal.returns
unfolding model_of
returns c = refl
