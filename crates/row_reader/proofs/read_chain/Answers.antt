-- `read_chain` meets its contract: the link numbers to come from the octets that remain, behind those read, are the chain's. Assumes nothing.
use Prim.Native.Nat.{◌-◌}
use native.Mathlib.Omega.{arith}
use Rattle.std.proofs.lemmas.Result.{err_from_is_err_and}
use Rattle.limits.specs.Limits.{most_row_links}
use Rattle.numbers.proofs.Parts.{answer_refused, answer_accepted}
use Rattle.plans.specs.Held.{padded}
use Rattle.plan_parts.proofs.Cursor.{number_high, numbers_stop, numbers_next, numbers_all}
use Rattle.row_reader.proofs.read_chain.Goals as goal

pub returns-in_err-n : goal.returns-in_err-n
returns-in_err-n c =
    let p = err_from_is_err_and c.from_residual.result c.from_residual.ensures.1 in
    rw (p.1, p.2)
    (answer_refused (padded most_row_links) _ _ _
    (numbers_stop _ _ _ _ _ _ _ _ _ c.loop-i.invariant _ c.loop-i-test.true c.in_err-n.ensures))

pub overflow_cast-chain : goal.overflow_cast-chain
overflow_cast-chain c =
    omega (arith, number_high c.args.s.now c.loop-i.at 0 (c.args.links - 1) c.in_ok-n.n c.in_ok-n.ensures)

pub loop-i-preserved : goal.loop-i-preserved
loop-i-preserved c =
    numbers_next _ _ _ _ _ _ _ _ _ c.loop-i.invariant c.in_ok-n.n c.loop-i-test.true c.in_ok-n.ensures c.requires.1

pub returns : goal.returns
returns c =
    let f = c.loop-i.invariant in
    rw f.holds
    (answer_accepted (padded most_row_links) c.args.s.now _ f.before c.loop-i.at (numbers_all _ _ _ _ _ _ _ _ _ f c.loop-i-test.false)
    f.midway.inside)
