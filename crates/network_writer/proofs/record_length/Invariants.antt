-- `record_length` meets its contract: a link adds its four numbers' octets. Assumes nothing.
use Rattle.record_writer.proofs.Recording.{Sized}
use Rattle.network_writer.proofs.record_length.Given as goal

abbrev pub invariant-loop-link : goal.invariant-loop-link
invariant-loop-link l = Sized l.network l.link-items l.size l.link-index
