-- `read` meets its contract: halfway, the entries read are in the struct, and what is to come is the whole answer. Assumes nothing.
use Prim.Native.Nat.{◌-◌}
use Rattle.limits.specs.Limits.{most_log_entries}
use Rattle.log_reader.proofs.Loop.{Halfway}
use Rattle.log_reader.proofs.read.Given as goal

abbrev pub invariant-loop-at : goal.invariant-loop-at
invariant-loop-at l = Halfway l.octets l.links l.entries l.at l.count l.was l.slot

abbrev pub decreases-loop-at : goal.decreases-loop-at
decreases-loop-at l = most_log_entries - l.count
