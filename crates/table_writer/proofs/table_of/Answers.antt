-- `table_of` stores the four numbers of one link in a turn, at the table's seam. Assumes nothing.
use mathlib.Core.Path.{◌≡◌, refl}
use Prim.Native.Nat.{ℕ}
use native.Mathlib.Omega.{arith}
use borrow.Author.Rules.{rules}
use lib.ListN.{length, length-replicate}
use Rattle.limits.specs.Limits.{most_links}
use Rattle.table_writer.proofs.Front.{front_step, front_all}
use Rattle.table_writer.proofs.table_of.Goals as goal

pub loop-e-init : goal.loop-e-init
loop-e-init c = (omega arith, c.table_begun-numbers.ensures)

pub loop-e-preserved : goal.loop-e-preserved
loop-e-preserved c =
    let full : length c.args.network.links ≡ most_links = search rules in
    (omega arith, front_step _ _ _ _ _ c.loop-e.invariant.1 refl (omega (arith, length-replicate {A = ℕ} 1028 0)))

pub returns : goal.returns
returns c =
    let full : length c.args.network.links ≡ most_links = search rules in
    front_all _ _ _ _ c.loop-e.invariant.1 (omega arith) (length-replicate {A = ℕ} 1028 0)
