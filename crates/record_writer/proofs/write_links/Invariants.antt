-- `write_links` meets its contract: one link a turn, and those from the turn on come later. Assumes nothing.
use Rattle.record_writer.proofs.Recording.{Links}
use Rattle.record_writer.proofs.write_links.Given as goal

abbrev pub invariant-loop-link : goal.invariant-loop-link
invariant-loop-link l = Links l.links l.initial.buffer l.start l.buffer l.at l.link-index
