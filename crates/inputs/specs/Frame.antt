-- What the text programs read: "a network record's length as a number, that record, a plan record. A bad length number gives 1 to 3, too
-- few octets 1".
use Rattle.std.specs.Prelude.{List, [], cond, ℕ, length, take, drop, ltb}
use Rattle.refusals.specs.declared.Refusal.TheVariants.{NetworkEnds, NetworkNotShortest, NetworkContinues}
use Rattle.numbers.specs.Leb128.{groups, Reading, endless, ended, padded, is, read_groups}
use Rattle.numbers.specs.Field.{Parse, refused, accepted}

-- the octets of a network's record and of a plan's
pub record Records : Type 0 where
  pub network : List ℕ
  pub plan : List ℕ

-- the octets after the length number: the network's record has as many, the plan's the rest
unfoldable pub parted : ℕ → List ℕ → Parse Records
parted n rest = cond (ltb (length rest) n) (refused NetworkEnds) (accepted (record { network = take n rest; plan = drop n rest }) [])

unfoldable pub framed_by : Reading → Parse Records
framed_by ended = refused NetworkEnds
framed_by padded = refused NetworkNotShortest
framed_by endless = refused NetworkContinues
framed_by (is n rest) = parted n rest

unfoldable pub framed : List ℕ → Parse Records
framed input = framed_by (read_groups groups input)
