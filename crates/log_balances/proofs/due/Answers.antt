-- `due` meets its contract: what the entries passed bring to the place is filed under the entry at which it is due. Assumes nothing.
use mathlib.Core.Path.{refl}
use native.Mathlib.Omega.{arith}
use Rattle.flows.proofs.Sums.{only_most}
use Rattle.logs.specs.Columns.{nth, blocks_of}
use Rattle.logs.proofs.Columns.{linked}
use Rattle.log_balances.specs.Balances.{end_of}
use Rattle.log_balances.proofs.Sending.{filling_none, due_small, filling_more}
use Rattle.log_balances.proofs.due.Goals as goal

pub loop-i-init : goal.loop-i-init
loop-i-init c = filling_none _ _ _ _ c.args.log.given _ refl

pub bounds-network-entry : goal.bounds-network-entry
bounds-network-entry c = linked _ _ c.args.log.formed c.args.log.given c.loop-i.i c.loop-i-test.true

pub overflow_add-due : goal.overflow_add-due
overflow_add-due c =
    let a = c.args in
    let i = c.loop-i.i in
    omega (
      arith,
      due_small _ _ _ _ a.log.given _ _ c.loop-i.invariant c.loop-i-test.true (nth a.firsts.now i) c.only_at.result
          (omega (arith, c.only_at.ensures, only_most (end_of a.log.network.now a.log.entries.now i) a.v (blocks_of a.log.entries.now i))),
    )

pub loop-i-preserved : goal.loop-i-preserved
loop-i-preserved c =
    filling_more _ _ _ _ c.args.log.given _ _ c.loop-i.invariant c.loop-i-test.true c.only_at.result c.only_at.ensures
    (omega (arith, c.requires c.loop-i.i c.loop-i-test.true, c.args.log.given.few))
