-- `counting` meets its contract, by the definition. Assumes nothing.
use mathlib.Core.Path.{refl}
use Rattle.flows.specs.Clock.{counting}
use Rattle.clock.proofs.counting.Goals as goal

pub returns : goal.returns
unfolding counting
returns c = refl
