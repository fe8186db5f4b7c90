-- `sends_more` meets its contract: what was due and what was sent up to the entries passed, and by none of them more was sent. Assumes nothing.
use mathlib.Core.Path.{sym, ◌∙◌}
use Rattle.logs.proofs.Columns.{linked}
use Rattle.log_balances.proofs.Sending.{weighing_over, weighing_all}
use Rattle.log_balances.proofs.sends_more.Goals as goal

pub bounds-network-entry : goal.bounds-network-entry
bounds-network-entry c = linked _ _ c.args.log.formed c.args.log.given c.loop-i.i c.loop-i-test.true

pub returns-then-arrived-left : goal.returns-then-arrived-left
returns-then-arrived-left c =
    sym (weighing_over _ _ _ _ _ _ _ c.loop-i.invariant c.loop-i-test.true
    _ _ c.from-arrived.ensures (c.from-left.ensures ∙ c.only_at.ensures) c.if-arrived-left.true)

pub returns : goal.returns
returns c = sym (weighing_all _ _ _ _ _ _ _ c.loop-i.invariant c.loop-i-test.false)
