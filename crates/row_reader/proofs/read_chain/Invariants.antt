-- `read_chain` meets its contract: the link numbers to come from the octets that remain, behind those read, are the chain's. Assumes nothing.
use Prim.Native.Nat.{◌-◌}
use Rattle.limits.specs.Limits.{most_row_links}
use Rattle.plans.specs.Record.{number}
use Rattle.plans.specs.Held.{padded}
use Rattle.numbers.proofs.Parts.{Filling}
use Rattle.row_reader.proofs.read_chain.Given as goal

abbrev pub invariant-loop-i : goal.invariant-loop-i
invariant-loop-i l = Filling (number 0 (l.links - 1)) (padded most_row_links) l.count l.s l.start l.at l.i l.chain
