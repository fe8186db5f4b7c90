-- `put_refused` meets its contract: the line is a word, a number of at most ten digits, and the line's end. Assumes nothing.
use Rattle.std.proofs.Common.{arith, le_trans, sym, ap}
use Rattle.texts.specs.Lines.{refused_text}
use Rattle.texts.specs.Put.{ending}
use Rattle.texts.specs.Words as words
use Rattle.texts.proofs.Spaces.{opens}
use Rattle.texts.proofs.Putting.{put_same, fits_same}
use Rattle.texts.proofs.Paging.{refusal_short}
use Rattle.refusal_line.proofs.put_refused.Goals as goal

pub put_line-requires : goal.put_line-requires
unfolding refused_text
put_line-requires c =
    fits_same _ _ (ap (ending (opens words.refused)) (sym c.from.ensures))
    (le_trans (refusal_short c.args.number (omega arith)) c.requires)

pub returns : goal.returns
unfolding refused_text
returns c = put_same (ap (ending (opens words.refused)) c.from.ensures) c.put_line.ensures
