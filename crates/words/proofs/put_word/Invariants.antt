-- The part is what it was with the word's octets so far in front. Assumes nothing.
use Rattle.std.proofs.Common.{◌≡◌, take}
use Rattle.numbers.specs.Leb128.{over}
use Rattle.words.proofs.put_word.Given as goal

abbrev pub invariant-loop-i : goal.invariant-loop-i
invariant-loop-i l = l.part ≡ over (take l.i l.word) l.initial.part
