-- `write_copy` meets its contract: the length and the network's record are written one after the other. Assumes nothing.
use native.Mathlib.Omega.{arith}
use Rattle.plan_carrier.proofs.Carrying.{length_writable, copy_fits, opened}
use Rattle.plan_carrier.proofs.write_copy.Goals as goal

pub write_at-copy-requires : goal.write_at-copy-requires
write_at-copy-requires c =
    length_writable c.args.network.now c.args.buffer.now c.requires.short c.requires.room

pub write_copy_at-requires : goal.write_copy_at-requires
write_copy_at-requires c =
    omega (arith, copy_fits c.args.network.now _ c.requires.short c.requires.room _ _ c.write_at-copy.ensures)

pub returns : goal.returns
returns c =
    opened c.args.network.now _ c.requires.short c.requires.room _ _ c.write_at-copy.ensures _ _ c.write_copy_at.ensures
