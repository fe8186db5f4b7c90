-- `packed` meets its contract: the test of the whole table is computed, and gives the rule at each entry. Assumes nothing.
use mathlib.Core.Path.{refl}
use Rattle.digits.specs.Packed.{Packs, packed_of}
use Rattle.digits.specs.declared.TheConstants.{PACKED_DIGITS}
use Rattle.digits.proofs.Packing.{packs}
use Rattle.digits.proofs.packed.Goals as goal

pub returns : goal.returns
unfolding packed_of
returns c =
    let table : Packs PACKED_DIGITS = packs tt refl in
    table.entry c.args.n c.requires
