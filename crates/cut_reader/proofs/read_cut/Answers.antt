-- `read_cut` meets its contract: the cut to come from the octets that remain, behind the numbers read, is the cut. Assumes nothing.
use Rattle.std.proofs.lemmas.Result.{err_from_is_err_and}
use Rattle.limits.specs.Limits.{most_places}
use Rattle.numbers.proofs.Parts.{answer_refused, answer_accepted}
use Rattle.plans.specs.Held.{padded}
use Rattle.plan_parts.proofs.Cursor.{numbers_stop, numbers_next, numbers_all}
use Rattle.cut_reader.proofs.read_cut.Goals as goal

pub returns-in_err-n : goal.returns-in_err-n
returns-in_err-n c =
    let p = err_from_is_err_and c.from_residual.result c.from_residual.ensures.1 in
    rw (p.1, p.2)
    (answer_refused (padded most_places) _ _ _
    (numbers_stop _ _ _ _ _ _ _ _ _ c.loop-i.invariant _ c.loop-i-test.true c.in_err-n.ensures))

pub loop-i-preserved : goal.loop-i-preserved
loop-i-preserved c =
    numbers_next _ _ _ _ _ _ _ _ _ c.loop-i.invariant c.in_ok-n.n c.loop-i-test.true c.in_ok-n.ensures c.requires.1

pub returns : goal.returns
returns c =
    let f = c.loop-i.invariant in
    rw f.holds
    (answer_accepted (padded most_places) c.args.s.now _ f.before c.loop-i.at (numbers_all _ _ _ _ _ _ _ _ _ f c.loop-i-test.false) f.midway.inside)
