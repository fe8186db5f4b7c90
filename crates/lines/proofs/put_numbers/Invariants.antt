-- `put_numbers` meets its contract: after some turns the first numbers stand in the part, and each turn puts the next into the part after
-- them. Assumes nothing.
use Rattle.std.proofs.Common.{length, map}
use Rattle.texts.proofs.InOrder.{number_text, Upto}
use Rattle.lines.proofs.put_numbers.Given as goal

abbrev pub invariant-loop-n : goal.invariant-loop-n
invariant-loop-n g l = Upto (number_text (map g.T.Number.value l.numbers)) (length l.numbers) l.initial.part l.part l.at l.n-index
