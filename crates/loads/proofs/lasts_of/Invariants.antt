-- `loads::lasts_of` meets its contract. The loop's invariant: the rows passed have their last slots. Assumes nothing.
use mathlib.Core.Path.{◌≡◌}
use mathlib.Core.List.{List}
use Prim.Native.Nat.{ℕ, ◌+◌, ◌^◌, ◌≤◌, ◌<◌}
use lib.ListN.{length, get_or}
use Rattle.loads.proofs.lasts_of.Given as goal

pub record Lasting (firsts departures lasts : List ℕ) (i : ℕ) : Type 0 where
  pub size : length lasts ≡ 257
  pub small : (j : ℕ) → get_or lasts j 0 ≤ 2 ^ 31
  pub are : (j : ℕ) → j < i → get_or lasts j 0 ≡ get_or firsts j 0 + get_or departures j 0

abbrev pub invariant-loop-i : goal.invariant-loop-i
invariant-loop-i l = Lasting l.uses.firsts.now l.uses.departures.now l.lasts l.i
