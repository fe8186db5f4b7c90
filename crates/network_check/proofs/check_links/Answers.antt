-- `check_links` meets its contract: the links before the loop's passed, so those from it on decide. Assumes nothing.
use mathlib.Core.Path.{refl}
use native.Mathlib.Omega.{arith}
use Rattle.std.proofs.lemmas.Result.{err_from_is_err_and}
use Rattle.network_check.proofs.Checking.{checked_next, checked_refused, checked_all}
use Rattle.network_check.proofs.check_links.Goals as goal

pub loop-link-init : goal.loop-link-init
loop-link-init c = record { to_come = refl }

pub returns-in_err-check_link : goal.returns-in_err-check_link
returns-in_err-check_link c =
    let p = err_from_is_err_and c.from_residual.result c.from_residual.ensures.1 in
    rw (p.1, p.2) (checked_refused _ _ _ c.loop-link.invariant c.loop-link-test.true _ c.in_err-check_link.ensures)

pub loop-link-preserved : goal.loop-link-preserved
loop-link-preserved c = checked_next _ _ _ c.loop-link.invariant c.loop-link-test.true _ c.in_ok-check_link.ensures

pub returns : goal.returns
returns c = checked_all _ _ _ c.loop-link.invariant (omega arith)
