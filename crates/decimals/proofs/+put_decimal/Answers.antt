-- `put_decimal` meets its contract: the triples before the last are put by the call, the last one in the part after them.
-- Assumes nothing.
use mathlib.Core.Path.{sym}
use mathlib.Core.List.{List, ◌++◌}
use Prim.Native.Nat.{ℕ, ◌/◌, ◌%◌, ◌≤◌}
use native.Mathlib.Omega.{arith}
use lib.ListN.{length}
use Rattle.texts.specs.Decimal.{decimal}
use Rattle.texts.specs.Triples.{three}
use Rattle.texts.proofs.Triples.{decimal_triples, length_triples}
use Rattle.texts.proofs.Putting.{put_then, put_same, fits_same, put_part}
use Rattle.decimals.proofs.+put_decimal.Goals as goal

-- the triples before the last, and the last
abbrev before : ℕ → List ℕ
before n = decimal (n / 1000)

abbrev last : ℕ → List ℕ
last n = three (n % 1000)

room : (n k : ℕ) → 1000 ≤ n → length (decimal n) ≤ k → length (before n ++ last n) ≤ k
room n k h g = fits_same (decimal n) (before n ++ last n) (decimal_triples n h) g

pub put_decimal-at-requires : goal.put_decimal-at-requires
put_decimal-at-requires t c = (omega arith, omega (arith, c.requires, length_triples c.args.n c.if-n-lt1000.false))

pub put_triple-requires-2 : goal.put_triple-requires-2
put_triple-requires-2 t c =
    record {
      triple = omega arith;
      room = put_part (before c.args.n) (last c.args.n) _ _ _ c.put_decimal-at.ensures (room c.args.n _ c.if-n-lt1000.false c.requires);
    }

pub returns : goal.returns
returns t c =
    put_same
    (sym (decimal_triples c.args.n c.if-n-lt1000.false))
    (put_then (before c.args.n) (last c.args.n) _ _ _ _ _ c.put_decimal-at.ensures c.put_triple-2.ensures)
