-- `even` compares one place in a turn: the places passed are even. Assumes nothing.
use mathlib.Core.Path.{◌≡◌}
use mathlib.Core.List.{List}
use Prim.Native.Nat.{ℕ, ◌+◌, ◌≤◌, ◌<◌}
use lib.ListN.{get_or}
use Rattle.limits.specs.Limits.{most_places}
use Rattle.flows.specs.Sums.{only}
use Rattle.soundness.proofs.even.Given as goal

-- the places below u are even
pub record Evening (out into : List ℕ) (origin destination value u : ℕ) : Type 0 where
  pub below : u ≤ most_places
  pub even : (i : ℕ) → i < u → get_or out i 0 + only destination i value ≡ get_or into i 0 + only origin i value

abbrev pub invariant-loop-u : goal.invariant-loop-u
invariant-loop-u l = Evening l.out l.into l.origin l.destination l.value l.u
