-- `read_entry` meets its contract: each return is the definition, rewritten by what was read up to there. Assumes nothing.
use Rattle.std.proofs.Common.{◌+◌, ◌-◌, drop, le-leb, lt-ltb, le-ltb}
use borrow.Author.Tests.{lt-leb}
use Rattle.std.proofs.lemmas.Result.{err_from_is_err_and}
use Rattle.limits.specs.Limits.{most_log_blocks, far_stamp, latest_logged_slot}
use Rattle.numbers.specs.Field.{and_then}
use Rattle.numbers.proofs.Fields.{ReadAt}
use Rattle.numbers.proofs.Parts.{PartRead, part_refused, answer_refused, answer_accepted}
use Rattle.logs.specs.Record.{entry_refusals, read_stamp, read_entry}
use Rattle.entry_reader.specs.Entry.{held_entry}
use Rattle.entry_reader.proofs.Reading.{stamp_part, number_read}
use Rattle.entry_reader.proofs.read_entry.Goals as goal
use Rattle.entry_reader.proofs.read_entry.Goals.{In_ok-stamp, In_ok-link, In_ok-blocks}

-- the numbers read, each where it was accepted
stamp_read : (c : In_ok-stamp)
    → let a = c.args in
    let n = c.in_ok-stamp.stamp in
    PartRead a.octets.now (read_stamp (drop a.at a.octets.now)) n.value n.next
stamp_read c = stamp_part _ c.args.at _ c.requires.0 c.in_ok-stamp.ensures

link_read : (c : In_ok-link)
    → let a = c.args in
    let n = c.in_ok-link.link in
    ReadAt entry_refusals 0 (a.links - 1) a.octets.now c.in_ok-stamp.stamp.next n.value n.next
link_read c = number_read _ _ c.in_ok-stamp.stamp.next _ c.in_ok-link.ensures

blocks_read : (c : In_ok-blocks)
    → let n = c.in_ok-blocks.blocks in
    ReadAt entry_refusals 0 most_log_blocks c.args.octets.now c.in_ok-link.link.next n.value n.next
blocks_read c = number_read _ _ c.in_ok-link.link.next _ c.in_ok-blocks.ensures

pub returns-in_err-stamp : goal.returns-in_err-stamp
unfolding read_entry and_then
returns-in_err-stamp c =
    let p = err_from_is_err_and c.from_residual.result c.from_residual.ensures.1 in
    rw (p.1, p.2) (answer_refused held_entry _ _ _ (rw (part_refused (λ n. n) _ _ _ c.in_err-stamp.ensures)))

pub returns-in_err-link : goal.returns-in_err-link
unfolding read_entry and_then
returns-in_err-link c =
    let k = goal.at.returns-in_err-link c in
    let p = err_from_is_err_and c.from_residual-in_err-link.result c.from_residual-in_err-link.ensures.1 in
    rw (p.1, p.2)
    (answer_refused held_entry _ _ _ (rw ((stamp_read k.In_ok-stamp).accepts, part_refused (λ n. n) _ _ _ c.in_err-link.ensures)))

pub returns-in_err-blocks : goal.returns-in_err-blocks
unfolding read_entry and_then
returns-in_err-blocks c =
    let k = goal.at.returns-in_err-blocks c in
    let p = err_from_is_err_and c.from_residual-in_err-blocks.result c.from_residual-in_err-blocks.ensures.1 in
    rw (p.1, p.2)
    (answer_refused held_entry _ _ _ (rw (
      (stamp_read k.In_ok-stamp).accepts,
      (link_read k.In_ok-link).accepts,
      part_refused (λ n. n) _ _ _ c.in_err-blocks.ensures,
    )))

pub returns-then-later-ge-FAR_STAMP : goal.returns-then-later-ge-FAR_STAMP
unfolding read_entry and_then
returns-then-later-ge-FAR_STAMP c =
    let k = goal.at.returns-then-later-ge-FAR_STAMP c in
    answer_refused held_entry _ _ _ (rw (
      (stamp_read k.In_ok-stamp).accepts,
      (link_read k.In_ok-link).accepts,
      (blocks_read k.In_ok-blocks).accepts,
      ← c.grows-later.ensures,
      le-leb far_stamp c.grows-later.result c.if-later-ge-FAR_STAMP.true,
    ))

pub returns-then-slot-later-gt-LATEST_LOGGED_SLOT : goal.returns-then-slot-later-gt-LATEST_LOGGED_SLOT
unfolding read_entry and_then
returns-then-slot-later-gt-LATEST_LOGGED_SLOT c =
    let k = goal.at.returns-then-slot-later-gt-LATEST_LOGGED_SLOT c in
    let near-late = lt-leb far_stamp c.grows-later.result c.if-later-ge-FAR_STAMP.false in
    answer_refused held_entry _ _ _ (rw (
      (stamp_read k.In_ok-stamp).accepts,
      (link_read k.In_ok-link).accepts,
      (blocks_read k.In_ok-blocks).accepts,
      ← c.grows-later.ensures,
      near-late,
      lt-ltb latest_logged_slot (c.args.slot + c.grows-later.result) c.if-slot-later-gt-LATEST_LOGGED_SLOT.true,
    ))

pub returns : goal.returns
unfolding read_entry and_then
returns c =
    let k = goal.at.returns c in
    let near-read = lt-leb far_stamp c.grows-later.result c.if-later-ge-FAR_STAMP.false in
    let b = blocks_read k.In_ok-blocks in
    answer_accepted held_entry c.args.octets.now _
    (record {
      stamp = c.in_ok-stamp.stamp.value;
      entry = record { link = c.in_ok-link.link.value; slot = c.args.slot + c.grows-later.result; blocks = c.in_ok-blocks.blocks.value };
    })
    c.in_ok-blocks.blocks.next
    (rw (
      (stamp_read k.In_ok-stamp).accepts,
      (link_read k.In_ok-link).accepts,
      b.accepts,
      ← c.grows-later.ensures,
      near-read,
      le-ltb latest_logged_slot (c.args.slot + c.grows-later.result) c.if-slot-later-gt-LATEST_LOGGED_SLOT.false,
    ))
    b.inside
