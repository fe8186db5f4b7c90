-- `number_length` meets its contract: one octet, and those of the groups after the first; the number falls. Assumes nothing.
use Rattle.std.proofs.Common.{◌-◌, ap, arith, length}
use Rattle.numbers.specs.Leb128.{groups}
use Rattle.numbers.proofs.Groups.{shortest_last, shortest_cons, length_shortest}
use Rattle.number_writer.proofs.+number_length.Goals as goal

pub returns-then-n-lt128 : goal.returns-then-n-lt128
returns-then-n-lt128 t c = omega (arith, ap length (shortest_last (groups - 1) c.args.n c.if-n-lt128.true))

pub returns : goal.returns
returns t c =
    let n = c.args.n in
    omega (arith, ap length (shortest_cons (groups - 2) n (omega arith) (omega arith)), length_shortest (groups - 1) groups n (omega arith))
