-- `row_faults::fault_in` meets its contract: the rows are looked at and filed, and what they show decides. Assumes nothing.
use native.Mathlib.Omega.{arith}
use Rattle.network.proofs.Links.{links_few}
use Rattle.row_uses.specs.Files.{columns_of}
use Rattle.row_uses.proofs.Filing.{file_none}
use Rattle.row_faults.proofs.Looked.{told}
use Rattle.row_faults.proofs.Sizes.{file_size}
use Rattle.row_faults.proofs.fault_in.Goals as goal

pub look-seen-requires : goal.look-seen-requires
look-seen-requires g c =
    let new = c.new-file.ensures in (
      file_size g.row.ROWS g.row.USES c.requires.room.0 c.requires.room.1,
      (c.requires.few, rw new.head (file_none (columns_of c.new-file.result) g.row.USES g.row.ROWS new.prev new.firsts new.departures)),
    )

pub uses-requires : goal.uses-requires
uses-requires g c =
    let filed = c.look-seen.ensures.1 in (
      file_size g.row.ROWS g.row.USES c.requires.room.0 c.requires.room.1,
      (filed.orderly, λ e. omega (arith, filed.heads e, c.requires.few, c.requires.room.1)),
    )

pub decide-requires : goal.decide-requires
decide-requires g c = links_few c.args.given.network.now c.args.given.given.well_formed

pub returns : goal.returns
returns g c =
    told c.args.given.network.now c.args.given.plan.now _ _ c.look-seen.ensures.1 _ _ (rw (c.uses.ensures.columns, c.uses.ensures.head) at c.decide.ensures)
    c.look-seen.ensures.0
