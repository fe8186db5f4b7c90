-- No number has more octets than groups. Assumes nothing.
use Rattle.std.proofs.Common.{◌-◌, length, ap, arith}
use Rattle.numbers.specs.Leb128.{groups}
use Rattle.numbers.proofs.Groups.{length_shortest}
use Rattle.numbers.proofs.Written.{encode_one}
use Rattle.vectors.proofs.codec.write_number.Goals as goal

pub write_at-requires : goal.write_at-requires
write_at-requires c =
    let n = c.args.n in
    record { fit = (omega arith, tt); room = omega (arith, ap length (encode_one n), length_shortest (groups - 1) groups n (omega arith)) }
