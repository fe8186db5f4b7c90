-- `oversent` meets its contract: no place passed fails. Assumes nothing.
use native.Mathlib.Omega.{arith}
use mathlib.Core.Path.{sym, ◌∙◌}
use Rattle.log_balances.proofs.Sending.{sent_found, sent_none, given_sized}
use Rattle.log_balances.proofs.oversent.Goals as goal

pub firsts-firsts-requires : goal.firsts-firsts-requires
firsts-firsts-requires c = given_sized _ _ c.args.log.formed c.args.log.given

pub returns-then-place_fails : goal.returns-then-place_fails
returns-then-place_fails c =
    sym (sent_found _ _ c.args.log.given c.firsts-firsts.result c.firsts-firsts.ensures
    c.loop-v.v c.loop-v-test.true (sym c.place_fails.ensures ∙ c.if-place_fails.true))

pub returns : goal.returns
returns c =
    sym (sent_none _ _ c.args.log.given c.firsts-firsts.result c.firsts-firsts.ensures
    (λ v p. c.loop-v.invariant.fit v (omega arith)))
