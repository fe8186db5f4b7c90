-- `refusal` meets its contract: each test that holds is the definition's first. Assumes nothing.
use native.Mathlib.Omega.{arith}
use Rattle.optimum.proofs.Promises.{too_long, too_few, within_limits}
use Rattle.most_refusals.proofs.refusal.Goals as goal

pub returns-then-from-horizon : goal.returns-then-from-horizon
returns-then-from-horizon c = λ N e. too_long N _ _ (omega (arith, c.if-from-horizon.true))

pub returns-then-lent-places : goal.returns-then-lent-places
returns-then-lent-places c = λ N e. too_few N _ _ (omega (arith, c.if-from-horizon.false)) (omega (arith, e, c.if-lent-places.true))

pub returns : goal.returns
returns c = λ N e. within_limits N _ _ (omega (arith, c.if-from-horizon.false)) (omega (arith, e, c.if-lent-places.false))
