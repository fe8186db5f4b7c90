-- `most` refuses by 1 to 7 for the network's record, by 9 or by 10, and so never by 12. The longest horizon and one more, and room for the
-- cut and one number less, are computed. Assumes nothing.
use mathlib.Core.Path.{◌≡◌, refl}
use mathlib.Core.Bool.{Bool, true, false, cond}
use mathlib.Core.List.{List}
use Prim.Native.Nat.{ℕ, ◌≤◌}
use native.Mathlib.Omega.{arith}
use lib.ListN.{length}
use lib.Dec.{ltb}
use Rattle.std.specs.Prelude.{Result, Ok, Err}
use Rattle.refusals.specs.declared.Refusal.{Refusal}
use Rattle.refusals.specs.declared.Refusal.TheVariants.{HorizonLimits, CutShort}
use Rattle.refusals.specs.Numbers.{told}
use Rattle.limits.specs.Limits.{longest_horizon}
use Rattle.numbers.specs.Field.{Parse, refused, accepted}
use Rattle.flows.specs.Network.{Network}
use Rattle.flows.specs.Figures.{A}
use Rattle.network.specs.Record.{read_network}
use Rattle.network.proofs.Refusals.{refusal_numbered}
use Rattle.optimum.specs.Promise.{refusal_after, Decided, PromisedOf, Promised}

to_ten : (N : Network) (horizon lent : ℕ) → told (refusal_after N horizon lent) ≤ 10
unfolding refusal_after
to_ten N horizon lent = go (ltb longest_horizon horizon) (ltb lent N.places)
  where
    go : (t u : Bool) → told {A = Unit {0}} (cond t (Err HorizonLimits) (cond u (Err CutShort) (Ok tt))) ≤ 10
    go true u = omega arith
    go false true = omega arith
    go false false = omega arith

-- "horizons .. go up to 100,063,000": on network A, which has four places
pub longest_horizon_taken : told (refusal_after A 100063000 4) ≡ 0
unfolding refusal_after
longest_horizon_taken = refl

pub longer_horizon_refused : told (refusal_after A 100063001 4) ≡ 9
unfolding refusal_after
longer_horizon_refused = refl

pub nine_before_ten : told (refusal_after A 100063001 3) ≡ 9
unfolding refusal_after
nine_before_ten = refl

pub three_numbers_too_few : told (refusal_after A 100063000 3) ≡ 10
unfolding refusal_after
three_numbers_too_few = refl

module _ (octets : List ℕ) (horizon : ℕ) (before after : List ℕ) (answer : Result ℕ Refusal) (promised : Promised octets horizon before after answer) where
  refuses_to_ten : told answer ≤ 10
  refuses_to_ten = go (read_network octets) refl promised
    where
      decides : (N : Network) (t : Result (Unit {0}) Refusal) → told t ≤ 10 → Decided N horizon before after answer t → told answer ≤ 10
      decides N (Ok x) h d = omega (arith, d.refusal_number)
      decides N (Err e) h d = omega (arith, d.refusal_number)

      go : (p : Parse Network) → read_network octets ≡ p → PromisedOf p horizon before after answer → told answer ≤ 10
      go (refused e) r d = omega (arith, d.refusal_number, (refusal_numbered octets e r).to_seven)
      go (accepted N rest) r d = decides N (refusal_after N horizon (length before)) (to_ten N horizon (length before)) d

  -- 12 is the planner's alone: where no chain leads to the archive, the most by a horizon is 0
  pub never_twelve : told answer ≡ 12 → ⊥
  never_twelve is = absurd (omega (arith, refuses_to_ten, is))
