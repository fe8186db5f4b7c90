-- `spanning` meets its contract, by the definition. Assumes nothing.
use mathlib.Core.Path.{refl}
use Rattle.flows.specs.Span.{spanning}
use Rattle.clock.proofs.spanning.Goals as goal

pub returns : goal.returns
unfolding spanning
returns c = refl
