-- Along a link's chain: the rates of the uses that have begun, less those of the uses that have ended, is what enters the link. The sums,
-- with what the uses still to come put in, stay equal. Assumes nothing.
use mathlib.Core.Path.{◌≡◌, refl, sym, ap, ◌∙◌}
use mathlib.Core.Bool.{true, false}
use Prim.Native.Nat.{ℕ, ◌+◌, ◌-◌, ◌*◌, ◌^◌, ◌≤◌, ◌<◌}
use native.Mathlib.Nat.{le_refl}
use native.Mathlib.Omega.{arith}
use lib.ListN.{get_or}
use borrow.Author.Tests.{lt-ltb, le-ltb}
use Rattle.row_uses.specs.Uses.{Columns, entry_in, use_in, chain, puts, load_on, over, over_on, Orderly}
use Rattle.row_uses.proofs.Chain.{chain_none, chain_first}
use Rattle.sweeps.specs.Sweeps.{from}
use Rattle.sweeps.proofs.Begun.{puts_is}

-- the sums stand at k
pub record Summing (c : Columns) (start slot begun ended k : ℕ) : Type 0 where
  pub within : k ≤ start
  pub begun_small : begun + 2 ^ 32 * k ≤ 2 ^ 32 * start
  pub ended_small : ended + 2 ^ 32 * k ≤ 2 ^ 32 * start
  pub summed : begun + load_on c k slot ≡ ended + load_on c start slot

module _ (c : Columns) (orderly : Orderly c) where
  -- a number of a chain and those that follow it
  pub chain_next : (g : ℕ → ℕ) (k : ℕ) → 0 < k → chain c.prev g k ≡ g (k - 1) + chain c.prev g (get_or c.prev (k - 1) 0)
  chain_next g k p = ap (chain c.prev g) (omega arith) ∙ chain_first c.prev orderly.falls g (k - 1)

  pub chain_falls : (k : ℕ) → 0 < k → get_or c.prev (k - 1) 0 < k
  chain_falls k p = omega (arith, orderly.falls (k - 1))

  module _ (start slot : ℕ) where
    pub sum_step : (begun ended k : ℕ) → Summing c start slot begun ended k → 0 < k → (a b : ℕ)
        → a ≡ from (entry_in c (k - 1)) (use_in c 0 (k - 1)).rate slot
        → b ≡ from (entry_in c (k - 1) + (use_in c 0 (k - 1)).departures) (use_in c 0 (k - 1)).rate slot
        → a < 2 ^ 32 → b < 2 ^ 32
        → Summing c start slot (begun + a) (ended + b) (get_or c.prev (k - 1) 0)
    sum_step begun ended k state p a b is-a is_b small-a small_b = record {
      within = omega (arith, state.within, chain_falls k p);
      begun_small = omega (arith, state.begun_small, chain_falls k p);
      ended_small = omega (arith, state.ended_small, chain_falls k p);
      summed = omega (arith, state.summed, chain_next (puts c slot) k p, puts_is c slot (k - 1), is-a, is_b);
    }

    pub sum_end : (begun ended k : ℕ) → Summing c start slot begun ended k → k ≤ 0 → begun ≡ ended + load_on c start slot
    sum_end begun ended k state p =
        let none : load_on c k slot ≡ 0 =
        ap (chain c.prev (puts c slot)) (omega arith) ∙ chain_none c.prev orderly.falls (puts c slot) in
        omega (arith, state.summed, none)

-- ---- whether some use is over

-- the test stands at k: the uses passed are not over
pub record Passing (c : Columns) (capacity start k : ℕ) : Type 0 where
  pub within : k ≤ start
  pub none : chain c.prev (over c capacity start) k ≡ chain c.prev (over c capacity start) start

module _ (c : Columns) (orderly : Orderly c) (capacity start : ℕ) where
  pub pass_start : Passing c capacity start start
  pass_start = record { within = le_refl start; none = refl }

  module _ (k : ℕ) (state : Passing c capacity start k) where
    pub pass_found : 0 < k → (load : ℕ) → load ≡ load_on c start (entry_in c (k - 1)) → capacity < load → true ≡ over_on c capacity start
    unfolding over_on
    pass_found p load is over₁ =
        let one : over c capacity start (k - 1) ≡ 1 = rw (← is, lt-ltb capacity load over₁) in
        sym (lt-ltb 0 (chain c.prev (over c capacity start) start) (omega (arith, state.none, chain_next c orderly (over c capacity start) k p, one)))

    pub pass_step : 0 < k → (load : ℕ) → load ≡ load_on c start (entry_in c (k - 1)) → load ≤ capacity
        → Passing c capacity start (get_or c.prev (k - 1) 0)
    pass_step p load is fits =
        let zero-here : over c capacity start (k - 1) ≡ 0 = rw (← is, le-ltb capacity load fits) in
        record {
          within = omega (arith, state.within, chain_falls c orderly k p);
          none = omega (arith, state.none, chain_next c orderly (over c capacity start) k p, zero-here);
        }

    pub pass_end : k ≤ 0 → false ≡ over_on c capacity start
    unfolding over_on
    pass_end p =
        let none : chain c.prev (over c capacity start) k ≡ 0 =
        ap (chain c.prev (over c capacity start)) (omega arith) ∙ chain_none c.prev orderly.falls (over c capacity start) in
        sym (le-ltb 0 (chain c.prev (over c capacity start) start) (omega (arith, state.none, none)))
