-- `write_record` meets its contract: the head is written, and the links behind it. Assumes nothing.
use Rattle.record_writer.proofs.Recording.{few_links, record_writable, head_writable, rest_fits, record_all}
use Rattle.record_writer.proofs.write_record.Goals as goal

pub write_four-head-requires : goal.write_four-head-requires
write_four-head-requires c =
    head_writable c.args.network.now _ (record_writable _ c.requires.unrefused _ c.requires.room)

pub links-requires : goal.links-requires
links-requires c = few_links _ c.requires.unrefused

pub write_links-requires : goal.write_links-requires
write_links-requires c =
    rw c.links.ensures (rest_fits c.args.network.now _ (record_writable _ c.requires.unrefused _ c.requires.room) _ _ c.write_four-head.ensures)

pub returns : goal.returns
returns c =
    record_all c.args.network.now _ (record_writable _ c.requires.unrefused _ c.requires.room) _ _ c.write_four-head.ensures _ _
    (rw c.links.ensures at c.write_links.ensures)
