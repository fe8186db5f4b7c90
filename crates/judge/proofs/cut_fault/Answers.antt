-- `judge::cut_fault` meets its contract: each test of the cut, in its order. Assumes nothing.
use mathlib.Core.Path.{◌≡◌, sym, ◌∙◌}
use mathlib.Core.Bool.{false}
use Prim.Native.Nat.{◌-◌}
use native.Mathlib.Omega.{arith}
use lib.ListN.{take}
use Rattle.flows.specs.Plan as model
use Rattle.network.specs.Held as network
use Rattle.judge.proofs.Verdicts.{cut_five, cut_six, cut_none}
use Rattle.judge.proofs.cut_fault.Goals as goal
use Rattle.judge.proofs.cut_fault.Goals.{Else-miscut}

-- the numbers are a cut
cuts : (c : Else-miscut)
    → model.miscut (network.model_of c.args.network.now) (c.args.horizon - 1) (take c.args.network.now.places c.args.cut.now) ≡ false
cuts c = sym c.miscut.ensures ∙ c.if-miscut.false

pub returns-then-miscut : goal.returns-then-miscut
returns-then-miscut c =
    cut_five _ _ _ _ (sym c.miscut.ensures ∙ c.if-miscut.true)

pub returns-then-from-bound : goal.returns-then-from-bound
returns-then-from-bound c =
    cut_six _ _ _ _ (cuts (goal.at.returns-then-from-bound c).Else-miscut) (omega (arith, c.if-from-bound.true, c.requires.bound_of_cut, c.from.ensures))

pub returns : goal.returns
returns c =
    cut_none _ _ _ _ (cuts (goal.at.returns c).Else-miscut) (omega (arith, c.if-from-bound.false, c.requires.bound_of_cut, c.from.ensures))
