-- `put_row` meets its contract: the parts of the line are put one after another, each into the part of the octets after those before it.
-- Assumes nothing.
use Rattle.std.proofs.Common.{ℕ, List, ◌++◌, ◌≤◌, length, sym, ap}
use Rattle.plans.specs.declared.Row as plans
use Rattle.plans.specs.Held.{row_of}
use Rattle.texts.proofs.Putting.{put_then, put_same, fits_same, put_first, put_part}
use Rattle.row_lines.specs.RowLine.{row_line}
use Rattle.row_lines.proofs.RowLine.{row_parts, numbered_row, over_links, of_links, of_rate, of_first, of_departures}
use Rattle.row_lines.proofs.put_row.Goals as goal

-- the line as far as its links, its rate and its first slot
module _ (i : ℕ) (row : plans.Row) where
  abbrev to_word : List ℕ
  to_word = numbered_row i ++ over_links

  abbrev to_links : List ℕ
  to_links = to_word ++ of_links (row_of row).links

  abbrev to_rate : List ℕ
  to_rate = to_links ++ of_rate row.rate

  abbrev to_first : List ℕ
  to_first = to_rate ++ of_first row.first

  module _ (k : ℕ) (fits : length (row_line i (row_of row)) ≤ k) where
    room : length (to_first ++ of_departures row.departures) ≤ k
    room = fits_same _ _ (row_parts i (row_of row)) fits

    room_first : length to_first ≤ k
    room_first = put_first to_first (of_departures row.departures) _ room

    room_rate : length to_rate ≤ k
    room_rate = put_first to_rate (of_first row.first) _ room_first

    room_links : length to_links ≤ k
    room_links = put_first to_links (of_rate row.rate) _ room_rate

    room_word : length to_word ≤ k
    room_word = put_first to_word (of_links (row_of row).links) _ room_links

pub put_named-at-requires : goal.put_named-at-requires
put_named-at-requires c = put_first (numbered_row c.args.number) over_links _ (room_word _ c.args.row _ c.requires.room)

pub put_word-at-requires : goal.put_word-at-requires
put_word-at-requires c = put_part (numbered_row c.args.number) over_links _ _ _ c.put_named-at.ensures (room_word _ c.args.row _ c.requires.room)

pub put_numbers-at-requires : goal.put_numbers-at-requires
put_numbers-at-requires c =
    let i = c.args.number in
    let row = c.args.row in
    let word = put_then (numbered_row i) over_links _ _ _ _ _ c.put_named-at.ensures c.put_word-at.ensures in
    put_part (to_word i row) (of_links (row_of row).links) _ _ _ word (room_links i row _ c.requires.room)

pub put_named-at-requires-2 : goal.put_named-at-requires-2
put_named-at-requires-2 c =
    let i = c.args.number in
    let row = c.args.row in
    let word = put_then (numbered_row i) over_links _ _ _ _ _ c.put_named-at.ensures c.put_word-at.ensures in
    let links = put_then (to_word i row) (of_links (row_of row).links) _ _ _ _ _ word c.put_numbers-at.ensures in
    fits_same _ _ (ap of_rate (sym c.from.ensures)) (put_part (to_links i row) (of_rate row.rate) _ _ _ links (room_rate i row _ c.requires.room))

pub put_named-at-requires-3 : goal.put_named-at-requires-3
put_named-at-requires-3 c =
    let i = c.args.number in
    let row = c.args.row in
    let word = put_then (numbered_row i) over_links _ _ _ _ _ c.put_named-at.ensures c.put_word-at.ensures in
    let links = put_then (to_word i row) (of_links (row_of row).links) _ _ _ _ _ word c.put_numbers-at.ensures in
    let rate = put_then (to_links i row) (of_rate row.rate) _ _ _ _ _ links (put_same (ap of_rate c.from.ensures) c.put_named-at-2.ensures) in
    fits_same _ _ (ap of_first (sym c.from-2.ensures)) (put_part (to_rate i row) (of_first row.first) _ _ _ rate (room_first i row _ c.requires.room))

pub put_line-requires : goal.put_line-requires
put_line-requires c =
    let i = c.args.number in
    let row = c.args.row in
    let word = put_then (numbered_row i) over_links _ _ _ _ _ c.put_named-at.ensures c.put_word-at.ensures in
    let links = put_then (to_word i row) (of_links (row_of row).links) _ _ _ _ _ word c.put_numbers-at.ensures in
    let rate = put_then (to_links i row) (of_rate row.rate) _ _ _ _ _ links (put_same (ap of_rate c.from.ensures) c.put_named-at-2.ensures) in
    let first = put_then (to_rate i row) (of_first row.first) _ _ _ _ _ rate (put_same (ap of_first c.from-2.ensures) c.put_named-at-3.ensures) in
    fits_same _ _ (ap of_departures (sym c.from-3.ensures)) (put_part (to_first i row) (of_departures row.departures) _ _ _ first (room i row _ c.requires.room))

pub returns : goal.returns
returns c =
    let i = c.args.number in
    let row = c.args.row in
    let word = put_then (numbered_row i) over_links _ _ _ _ _ c.put_named-at.ensures c.put_word-at.ensures in
    let links = put_then (to_word i row) (of_links (row_of row).links) _ _ _ _ _ word c.put_numbers-at.ensures in
    let rate = put_then (to_links i row) (of_rate row.rate) _ _ _ _ _ links (put_same (ap of_rate c.from.ensures) c.put_named-at-2.ensures) in
    let first = put_then (to_rate i row) (of_first row.first) _ _ _ _ _ rate (put_same (ap of_first c.from-2.ensures) c.put_named-at-3.ensures) in
    put_same (sym (row_parts i (row_of row))) (put_then (to_first i row) (of_departures row.departures) _ _ _ _ _ first (put_same (ap of_departures c.from-3.ensures) c.put_line.ensures))
