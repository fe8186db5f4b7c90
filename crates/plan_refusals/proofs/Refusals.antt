-- What planning refuses after reading, test by test; where it refuses nothing, amount and buffer are within their limits. Assumes nothing.
use mathlib.Core.Path.{◌≡◌, refl, ap}
use Prim.Native.Nat.{ℕ, ◌≤◌, ◌<◌}
use native.Mathlib.Omega.{arith}
use native.Mathlib.Decide.{dec_lt}
use borrow.Author.Tests.{lt-ltb, le-ltb}
use Rattle.std.specs.Prelude.{Ok, Err}
use Rattle.refusals.specs.declared.Refusal.TheVariants.{AmountLimits, PlanBufferShort}
use Rattle.refusals.specs.Numbers.{told}
use Rattle.limits.specs.Limits.{least_amount, most_amount, plan_buffer}
use Rattle.planner.specs.Promise.{refusal_after}

module _ (amount lent : ℕ) where
  pub amount_low : amount < least_amount → Err AmountLimits ≡ refusal_after amount lent
  unfolding refusal_after
  amount_low h = rw (lt-ltb amount least_amount h) refl

  pub amount_high : least_amount ≤ amount → most_amount < amount → Err AmountLimits ≡ refusal_after amount lent
  unfolding refusal_after
  amount_high l h = rw (le-ltb amount least_amount l, lt-ltb most_amount amount h) refl

  pub buffer_short : least_amount ≤ amount → amount ≤ most_amount → lent < plan_buffer → Err PlanBufferShort ≡ refusal_after amount lent
  unfolding refusal_after
  buffer_short l h b = rw (le-ltb amount least_amount l, le-ltb most_amount amount h, lt-ltb lent plan_buffer b) refl

  pub within_limits : least_amount ≤ amount → amount ≤ most_amount → plan_buffer ≤ lent → Ok tt ≡ refusal_after amount lent
  unfolding refusal_after
  within_limits l h b = rw (le-ltb amount least_amount l, le-ltb most_amount amount h, le-ltb lent plan_buffer b) refl

  -- by their numbers
  pub too_little : amount < least_amount → 11 ≡ told (refusal_after amount lent)
  too_little h = ap told (amount_low h)

  pub too_much : least_amount ≤ amount → most_amount < amount → 11 ≡ told (refusal_after amount lent)
  too_much l h = ap told (amount_high l h)

  pub too_short : least_amount ≤ amount → amount ≤ most_amount → lent < plan_buffer → 13 ≡ told (refusal_after amount lent)
  too_short l h b = ap told (buffer_short l h b)

  pub record Within : Type 0 where
    pub low : least_amount ≤ amount
    pub high : amount ≤ most_amount
    pub room : plan_buffer ≤ lent

  pub none_refused : (x : Unit {0}) → Ok x ≡ refusal_after amount lent → Within
  none_refused x z = elim (dec_lt amount least_amount) [
    | yes h ↦ absurd (omega (arith, too_little h, ap told z))
    | no l ↦ elim (dec_lt most_amount amount) [
      | yes h ↦ absurd (omega (arith, too_much (omega arith) h, ap told z))
      | no h ↦ elim (dec_lt lent plan_buffer) [
        | yes b ↦ absurd (omega (arith, too_short (omega arith) (omega arith) b, ap told z))
        | no b ↦ record { low = omega arith; high = omega arith; room = omega arith }
      ]
    ]
  ]
