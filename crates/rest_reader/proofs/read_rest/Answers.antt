-- `read_rest` meets its contract: halfway, the links read are in the struct, and what is to come is the whole answer. Assumes nothing.
use mathlib.Core.Path.{refl}
use mathlib.Core.List.{[]}
use native.Mathlib.Nat.{sub-zero}
use native.Mathlib.Omega.{arith}
use Rattle.std.proofs.lemmas.Result.{err_from_is_err_and}
use Rattle.rest_reader.proofs.Halfway.{halfway_next, halfway_refused, halfway_more, halfway_done}
use Rattle.rest_reader.proofs.read_rest.Goals as goal

pub loop-i-init : goal.loop-i-init
loop-i-init c = record { below = omega arith; inside = omega arith; before = []; size = refl; holds = c.without_links-network.ensures; to_come = rw sub-zero }

pub returns-in_err-read : goal.returns-in_err-read
returns-in_err-read c =
    let p = err_from_is_err_and c.from_residual.result c.from_residual.ensures.1 in
    rw (p.1, p.2) (halfway_refused _ _ _ _ _ _ _ _ _ c.loop-i.invariant c.loop-i-test.true _ c.in_err-read.ensures)

pub loop-i-preserved : goal.loop-i-preserved
loop-i-preserved c =
    halfway_next _ _ _ _ _ _ _ _ _ c.loop-i.invariant c.loop-i-test.true (omega arith) _ c.in_ok-read.ensures

pub returns-then-at-octets : goal.returns-then-at-octets
returns-then-at-octets c = halfway_more _ _ _ _ _ _ _ _ _ c.loop-i.invariant (omega arith) c.if-at-octets.true

pub returns : goal.returns
returns c = halfway_done _ _ _ _ _ _ _ _ _ c.loop-i.invariant (omega arith) c.if-at-octets.false
