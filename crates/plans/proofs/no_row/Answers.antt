-- `no_row` meets its contract: the struct is the definition's. Assumes nothing.
use mathlib.Core.Path.{refl}
use Rattle.plans.specs.Held.{no_row}
use Rattle.plans.proofs.no_row.Goals as goal

pub returns : goal.returns
unfolding no_row
returns c = refl
