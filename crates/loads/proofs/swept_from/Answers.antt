-- `loads::swept_from` meets its contract. The loop's invariant: no link passed has a use that is over, and the room lent is as large as it was.
-- Assumes nothing.
use mathlib.Core.Path.{sym, ◌∙◌}
use native.Mathlib.Omega.{arith}
use Rattle.row_uses.proofs.Entries.{some_link, no_link_lem, any_over_lem}
use Rattle.loads.proofs.swept_from.Goals as goal

pub returns-then-swept_over : goal.returns-then-swept_over
returns-then-swept_over c =
    λ n rs filed.
    some_link _ c.args.network.now.links c.args.filed.head.now c.args.network.now.count c.loop-e.e c.loop-e-test.true
    (rw c.from-start.ensures at (sym c.swept_over.ensures ∙ c.if-swept_over.true))
    ∙ any_over_lem c.args.network.now rs _ c.args.filed.head.now n filed c.requires.links_few

pub returns : goal.returns
returns c =
    λ n rs filed.
    no_link_lem _ c.args.network.now.links c.args.filed.head.now c.args.network.now.count (λ d h. c.loop-e.invariant.none d (omega (arith, c.loop-e-test.false)))
    ∙ any_over_lem c.args.network.now rs _ c.args.filed.head.now n filed c.requires.links_few
