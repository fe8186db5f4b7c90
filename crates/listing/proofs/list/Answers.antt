-- `list` meets its contract: a short buffer is left, and the text is put into any other. Assumes nothing.
use Rattle.std.proofs.lemmas.Result.{err_from_is_err_and}
use Rattle.texts.proofs.Paging.{paged_short, paged_put, room_short, room_enough}
use Rattle.listing.specs.Text.{listed}
use Rattle.listing.proofs.list.Goals as goal

pub returns-in_err-room : goal.returns-in_err-room
returns-in_err-room c =
    let text = listed c.args.input.now in
    let p = err_from_is_err_and c.from_residual.result c.from_residual.ensures.1 in
    let short = paged_short text c.args.text.now (room_short text c.args.text.now _ c.in_err-room.ensures) in
    record { answer = rw (p.1, p.2) short.0; text_after = short.1 }

pub put_listing-requires : goal.put_listing-requires
put_listing-requires c = room_enough (listed c.args.input.now) c.args.text.now _ c.in_ok-room.ensures

pub returns : goal.returns
returns c =
    let put = paged_put _ _ _ _ (room_enough (listed c.args.input.now) c.args.text.now _ c.in_ok-room.ensures) c.put_listing.ensures in
    record { answer = put.0; text_after = put.1 }
