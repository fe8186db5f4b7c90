-- `addend` meets its contract. What counts of a slack is at most the number at the link's end. Assumes nothing.
use mir.Syntax.{w64}
use mir.ValLaws.{to_z-of_z}
use Rattle.slacks.proofs.Counts.{counted_le}
use Rattle.flows.specs.Cut.{slack_of, counted}
use Prim.Native.Nat.{◌*◌, ◌≤◌}
use native.Mathlib.Nat.{mul-le-mul}
use native.Mathlib.Omega.{arith}
use mathlib.Core.Path.{◌≡◌, ap, ap₂, ◌∙◌}
use Rattle.slacks.proofs.addend.Goals as goal
use Rattle.slacks.proofs.addend.Goals.{After-counted}

counts : (c : After-counted)
    → c.counted.result ≡ counted (slack_of c.args.end c.args.start c.args.link.now.transit)
counts c = c.counted.ensures ∙ ap counted (to_z-of_z w64 c.slack.result (record { sfits = c.slack.type_inv }) ∙ c.slack.ensures)

product : (c : After-counted) → c.from.result * c.counted.result ≤ 10000 * 4294967295
product c = mul-le-mul {n₂ = 10000} {m₂ = 4294967295} (omega arith) (omega (arith, counts c, counted_le c.args.end c.args.start c.args.link.now.transit))

pub overflow_mul-result : goal.overflow_mul-result
overflow_mul-result c = omega (arith, product c)

pub returns : goal.returns
returns c = record { is = ap₂ ◌*◌ c.from.ensures (counts c); small = omega (arith, product c) }
