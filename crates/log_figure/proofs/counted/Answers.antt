-- `counted` meets its contract, case by case. Assumes nothing.
use mathlib.Core.Path.{sym, ap, ◌∙◌}
use Rattle.flows.specs.Sums.{only}
use Rattle.flows.proofs.Sums.{only_same, only_other, only_zero}
use Rattle.logs.proofs.Sums.{earlier_yes, earlier_no}
use Rattle.log_figure.proofs.counted.Goals as goal
use Rattle.log_figure.proofs.counted.Goals.{else-at-v-via-then-at-v+else-slot-k, else-at-v-via-else-at-v}

pub returns-then-slot-k : goal.returns-then-slot-k
returns-then-slot-k c =
    let a = c.args in
    rw c.if-at-v.true (sym (only_same a.v _ ∙ earlier_yes a.slot a.k a.blocks c.if-slot-k.true))

pub returns-else-at-v : goal.returns-else-at-v
returns-else-at-v c =
    let a = c.args in
    elim c.else-at-v.branch [
      | else-at-v-via-then-at-v+else-slot-k w ↦ sym (ap (only a.at a.v) (earlier_no a.slot a.k a.blocks w.if-slot-k.false) ∙ only_zero a.at a.v)
      | else-at-v-via-else-at-v w ↦ sym (only_other _ _ _ w.if-at-v.false)
    ]
