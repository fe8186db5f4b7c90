-- A turn reads a row and stores it: the rows read so far, and those that can be read from the octets that remain, are all, and the record
-- is the same. Assumes nothing.
use mathlib.Core.Path.{◌≡◌}
use Rattle.plans.specs.Record.{read_row}
use Rattle.plans.specs.Held.{held_rows}
use Rattle.numbers.proofs.Parts.{Filling}
use Rattle.plan_reader.proofs.PlanReader.next_rows.Given as goal

abbrev pub invariant-loop-i : goal.invariant-loop-i
invariant-loop-i l =
    Filling (read_row l.links) held_rows l.count l.self.octets.now l.fn.self.at l.self.at l.i l.rows × (l.self.octets ≡ l.fn.self.octets)
