-- `four_length` meets its contract: the octets of four numbers are those of each. Assumes nothing.
use mathlib.Core.Path.{ap}
use native.Mathlib.Omega.{arith}
use lib.ListN.{length, length-append}
use Rattle.numbers.proofs.Written.{encode_four}
use Rattle.network_writer.proofs.four_length.Goals as goal

pub returns : goal.returns
returns c = omega (arith, simp length-append at (ap length (encode_four c.args.a c.args.b c.args.c c.args.d)))
