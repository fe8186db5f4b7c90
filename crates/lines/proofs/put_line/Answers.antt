-- `put_line` meets its contract: the word and its number, then the line's end in the part after them. Assumes nothing.
use Rattle.texts.proofs.Putting.{put_then}
use Rattle.lines.proofs.put_line.Goals as goal

pub returns : goal.returns
returns c = put_then _ _ _ _ _ _ _ c.put_named-at.ensures c.put_word.ensures
