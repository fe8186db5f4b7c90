-- `put_cut_line` meets its contract: the parts of the line are put one after another, each into the part of the octets after those before
-- it. Assumes nothing.
use Rattle.std.proofs.Common.{ℕ, List, ◌++◌, ◌≤◌, length, sym}
use Rattle.texts.specs.Words as words
use Rattle.texts.proofs.Putting.{put_then, put_same, fits_same, put_first, put_part}
use Rattle.plan_lines.specs.PlanText.{cut_line}
use Rattle.plan_lines.proofs.PlanLines.{cut_parts, of_cut, of_bound}
use Rattle.plan_lines.proofs.put_cut_line.Goals as goal

-- the line as far as its cut
abbrev to_cut : List ℕ → List ℕ
to_cut π = words.cut ++ of_cut π

room : (π : List ℕ) (b k : ℕ) → length (cut_line π b) ≤ k → length (to_cut π ++ of_bound b) ≤ k
room π b k fits = fits_same _ _ (cut_parts π b) fits

room_cut : (π : List ℕ) (b k : ℕ) → length (cut_line π b) ≤ k → length (to_cut π) ≤ k
room_cut π b k fits = put_first (to_cut π) (of_bound b) _ (room π b k fits)

pub put_word-at-requires : goal.put_word-at-requires
put_word-at-requires c = put_first words.cut (of_cut c.args.cut.now) _ (room_cut _ c.args.bound _ c.requires)

pub put_numbers-at-requires : goal.put_numbers-at-requires
put_numbers-at-requires c = put_part words.cut (of_cut c.args.cut.now) _ _ _ c.put_word-at.ensures (room_cut _ c.args.bound _ c.requires)

pub put_line-requires : goal.put_line-requires
put_line-requires c =
    let cut = put_then words.cut (of_cut c.args.cut.now) _ _ _ _ _ c.put_word-at.ensures c.put_numbers-at.ensures in
    put_part (to_cut c.args.cut.now) (of_bound c.args.bound) _ _ _ cut (room _ _ _ c.requires)

pub returns : goal.returns
returns c =
    let cut = put_then words.cut (of_cut c.args.cut.now) _ _ _ _ _ c.put_word-at.ensures c.put_numbers-at.ensures in
    put_same (sym (cut_parts c.args.cut.now c.args.bound)) (put_then (to_cut c.args.cut.now) (of_bound c.args.bound) _ _ _ _ _ cut c.put_line.ensures)
