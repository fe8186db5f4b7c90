-- `at` by the two cases of `only`. Assumes nothing.
use mathlib.Core.Path.{sym}
use Rattle.flows.proofs.Sums.{only_same, only_other}
use Rattle.soundness.proofs.at.Goals as goal

pub returns-then-here-place : goal.returns-then-here-place
returns-then-here-place c = rw c.if-here-place.true (sym (only_same _ _))

pub returns : goal.returns
returns c = sym (only_other _ _ _ c.if-here-place.false)
