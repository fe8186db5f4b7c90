-- The start is what its definition says. Assumes nothing.
use mathlib.Core.Path.{refl}
use Rattle.states.specs.Steps.{zero_state}
use Rattle.states.proofs.begin.Goals as goal

pub returns : goal.returns
unfolding zero_state
returns c = refl
