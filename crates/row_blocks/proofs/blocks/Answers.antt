-- `row_blocks::blocks` meets its contract: a product of numbers within the limits fits. Assumes nothing.
use mathlib.Core.Path.{◌≡◌, ap₂}
use Prim.Native.Nat.{ℕ, ◌*◌, ◌≤◌}
use native.Mathlib.Omega.{arith}
use native.Mathlib.Nat.{mul-le-mul}
use Rattle.limits.specs.Limits.{most_rate, most_departures}
use Rattle.row_blocks.proofs.blocks.Goals as goal

product : (a b : ℕ) → a ≤ most_rate → b ≤ most_departures → a * b ≤ most_rate * most_departures
product a b h k = mul-le-mul {n₂ = most_rate} {m₂ = most_departures} h k

pub overflow_mul-result : goal.overflow_mul-result
overflow_mul-result c = omega (arith, product c.from.result c.from-2.result (omega (arith, c.from.ensures)) (omega (arith, c.from-2.ensures)))

pub returns : goal.returns
returns c = (
  ap₂ (λ (a b : ℕ). a * b) c.from.ensures c.from-2.ensures,
  product c.from.result c.from-2.result (omega (arith, c.from.ensures)) (omega (arith, c.from-2.ensures)),
)
