-- `read_cut` meets its contract: the cut to come from the octets that remain, behind the numbers read, is the cut. Assumes nothing.
use Rattle.limits.specs.Limits.{most_places, most_cut_number}
use Rattle.plans.specs.Record.{number}
use Rattle.plans.specs.Held.{padded}
use Rattle.numbers.proofs.Parts.{Filling}
use Rattle.cut_reader.proofs.read_cut.Given as goal

abbrev pub invariant-loop-i : goal.invariant-loop-i
invariant-loop-i l = Filling (number 0 most_cut_number) (padded most_places) l.places l.s l.start l.at l.i l.cut
