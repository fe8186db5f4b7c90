-- `read_rest` meets its contract: halfway, the links read are in the struct, and what is to come is the whole answer. Assumes nothing.
use Rattle.rest_reader.proofs.Halfway.{Halfway}
use Rattle.rest_reader.proofs.read_rest.Given as goal

abbrev pub invariant-loop-i : goal.invariant-loop-i
invariant-loop-i l = Halfway l.octets l.first l.places l.origin l.destination l.count l.network l.at l.i
