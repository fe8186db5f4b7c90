-- `place_fails` meets its contract: the test depends on what is due at the entries alone. Assumes nothing.
use mathlib.Core.Path.{◌∙◌}
use Rattle.log_balances.proofs.Sending.{fails_origin, fails_sends}
use Rattle.log_balances.proofs.place_fails.Goals as goal

pub returns-then-v-log : goal.returns-then-v-log
returns-then-v-log c = fails_origin _ _ _ _ c.if-v-log.true

pub returns : goal.returns
returns c = c.sends_more.ensures ∙ fails_sends _ _ _ _ c.due-due.result c.if-v-log.false c.due-due.ensures
