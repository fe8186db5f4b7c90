-- `portions::spread` meets its contract: the departures that are owed, by division, are at least the slots or fewer. Assumes nothing.
use Prim.Native.Nat.{ℕ, ◌-◌, ◌*◌, ◌/◌, ◌%◌, ◌≤◌, ◌<◌}
use native.Mathlib.Nat.{le_trans, mul_comm, mul-le-mul_right, div-mul-le_self, div-add-mod', mod-lt}
use native.Mathlib.Omega.{arith}
use Rattle.portions.specs.Portions.{Apportioned}
use Rattle.portions.proofs.spread.Goals as goal

-- all slots are used, and take off no more than is owed
fits : (slots rate owed : ℕ) → slots ≤ owed / rate → slots * rate ≤ owed
fits slots rate owed p = le_trans (mul-le-mul_right rate p) (div-mul-le_self owed rate)

all_slots : (slots rate owed : ℕ) → slots ≤ owed / rate
    → Apportioned slots rate owed (record { departures = slots; last = 0; owed = owed - slots * rate })
all_slots slots rate owed p =
    record {
      sums = omega (arith, fits slots rate owed p, mul_comm rate slots);
      in_time = omega arith;
      last_in_time = λ q. absurd (omega arith);
      last_less = omega arith;
      slots_used = λ q. omega arith;
      none_last = λ q. omega arith;
    }

-- not all slots are used, and nothing stays owed
all_owed : (slots rate owed : ℕ) → 0 < rate → owed / rate < slots
    → Apportioned slots rate owed (record { departures = owed / rate; last = owed % rate; owed = 0 })
all_owed slots rate owed q p =
    record {
      sums = omega (arith, div-add-mod' owed rate, mul_comm rate (owed / rate));
      in_time = omega arith;
      last_in_time = λ r. p;
      last_less = omega (arith, mod-lt owed q);
      slots_used = λ r. absurd (omega arith);
      none_last = λ r. absurd (omega arith);
    }

pub overflow_mul-result : goal.overflow_mul-result
overflow_mul-result c = omega (arith, fits _ _ _ c.if-slots-departures.true)

pub overflow_sub-result : goal.overflow_sub-result
overflow_sub-result c = fits _ _ _ c.if-slots-departures.true

pub returns-then-slots-departures : goal.returns-then-slots-departures
returns-then-slots-departures c = all_slots _ _ _ c.if-slots-departures.true

pub returns : goal.returns
returns c = all_owed _ _ _ c.requires c.if-slots-departures.false
