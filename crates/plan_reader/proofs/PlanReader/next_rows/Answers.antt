-- `next_rows` meets its contract: a row that is refused ends the loop, and else the rows read are those of the record. Assumes nothing.
use mathlib.Core.Path.{refl, ◌∙◌}
use Rattle.std.proofs.lemmas.Result.{err_from_is_err_and}
use Rattle.numbers.proofs.Parts.{filling_none}
use Rattle.plan_reader.proofs.Rows.{rows_stop, rows_next, rows_all}
use Rattle.plan_reader.proofs.PlanReader.next_rows.Goals as goal

pub loop-i-init : goal.loop-i-init
loop-i-init c = (filling_none _ _ _ _ _ _ c.requires.0 c.requires.4, refl)

pub next_row-requires : goal.next_row-requires
next_row-requires c = (c.loop-i.invariant.0.midway.inside, c.requires.2, c.requires.3)

pub returns-in_err-rows-clause-told : goal.returns-in_err-rows-clause-told
returns-in_err-rows-clause-told c =
    let p = err_from_is_err_and c.from_residual.result c.from_residual.ensures.1 in
    rw (p.1, p.2, ← c.loop-i.invariant.1) (rows_stop _ _ _ _ _ _ _ c.loop-i.invariant.0 _ c.loop-i-test.true c.in_err-rows.ensures.told)

pub returns-in_err-rows-clause-octets : goal.returns-in_err-rows-clause-octets
returns-in_err-rows-clause-octets c = c.next_row.ensures.octets ∙ c.loop-i.invariant.1

pub loop-i-preserved : goal.loop-i-preserved
loop-i-preserved c =
    rw c.next_row.ensures.octets
    (rows_next _ _ _ _ _ _ _ c.loop-i.invariant.0 _ c.loop-i-test.true c.in_ok-rows.ensures.told c.requires.1, c.loop-i.invariant.1)

pub returns-clause-told : goal.returns-clause-told
returns-clause-told c = rw (← c.loop-i.invariant.1) (rows_all _ _ _ _ _ _ _ c.loop-i.invariant.0 c.loop-i-test.false)

pub returns-clause-octets : goal.returns-clause-octets
returns-clause-octets c = c.loop-i.invariant.1
