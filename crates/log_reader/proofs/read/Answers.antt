-- `read` meets its contract: halfway, the entries read are in the struct, and what is to come is the whole answer. Assumes nothing.
use mathlib.Core.Path.{refl}
use Rattle.std.proofs.lemmas.Result.{err_from_is_err_and}
use Rattle.log_reader.proofs.Loop.{halfway_none, halfway_full, halfway_refused, halfway_next, halfway_done}
use Rattle.log_reader.proofs.read.Goals as goal

pub loop-at-init : goal.loop-at-init
loop-at-init c = halfway_none _ _ _ refl

pub returns-then-count : goal.returns-then-count
returns-then-count c = halfway_full _ _ _ _ _ _ _ c.loop-at.invariant c.loop-at-test.true c.if-count.true

pub read_entry-requires : goal.read_entry-requires
read_entry-requires c =
    let h = c.loop-at.invariant in
    (h.inside, c.requires.0, h.early)

pub returns-in_err-read : goal.returns-in_err-read
returns-in_err-read c =
    let p = err_from_is_err_and c.from_residual.result c.from_residual.ensures.1 in
    rw (p.1, p.2)
    (halfway_refused _ _ _ _ _ _ _ c.loop-at.invariant c.loop-at-test.true c.if-count.false _ c.in_err-read.ensures)

pub loop-at-preserved : goal.loop-at-preserved
loop-at-preserved c =
    halfway_next _ _ _ _ _ _ _ c.loop-at.invariant c.loop-at-test.true c.if-count.false _ c.in_ok-read.ensures

pub returns : goal.returns
returns c = halfway_done _ _ _ _ _ _ _ c.loop-at.invariant c.loop-at-test.false
