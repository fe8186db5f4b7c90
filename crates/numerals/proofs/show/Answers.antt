-- `show` is safe: a number of 64 bits has at most 20 digits, so that its line has room in the text. Assumes nothing.
use Rattle.std.proofs.Common.{ℕ, ◌^◌, ◌<◌, ◌≤◌, [], ◌∷◌, length, arith}
use Rattle.std.proofs.lemmas.List.{length-append}
use Rattle.texts.specs.Decimal.{decimal}
use Rattle.texts.specs.Put.{ending}
use Rattle.texts.proofs.Decimal.{length_decimal}
use Rattle.numerals.proofs.show.Goals as goal

-- there is room for the line
room : (n : ℕ) → n < 2 ^ 64 → length (ending [] n) ≤ 32
room n h = omega (arith, length-append (decimal n) (10 ∷ []), length_decimal 19 n (omega arith))

pub put_line-size-requires : goal.put_line-size-requires
put_line-size-requires g c = room c.args.n c.ranges.n.fits
