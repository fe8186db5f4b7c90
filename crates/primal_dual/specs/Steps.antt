-- The steps to a number of slots: what each asks for, and what it leaves.
use Rattle.std.specs.Prelude.{◌≡◌, ℕ, ◌+◌, ◌≤◌, ◌<◌}
use Rattle.limits.specs.Limits.{most_cut_number}
use Rattle.flows.specs.Network.{Network, WellFormed}
use Rattle.residual.specs.declared.Tree.{Tree}
use Rattle.residual.specs.Tree.{Searched}
use Rattle.states.specs.declared.State.{State}
use Rattle.states.specs.State.{Sound}
use Rattle.states.specs.Steps.{level, Steppable}

-- what a step asks for after a search
pub record Advanceable (N : Network) (s : State) (t : Tree) (limit : ℕ) : Type 0 where
  pub steppable : Steppable N s limit
  pub searched : Searched N s.flow s.potential t

-- what a step leaves: neither the level nor the value falls, and below the limit one of them grows
pub record Stepped (N : Network) (s : State) (limit : ℕ) (r : State) : Type 0 where
  pub sound : Sound N r
  pub within : level N r ≤ limit
  pub level_kept : level N s ≤ level N r
  pub value_kept : s.value ≤ r.value
  pub grows : level N s < limit → level N s + s.value < level N r + r.value

-- what the steps may begin with, and what holds between them
pub record Begun (N : Network) (slots : ℕ) (s : State) : Type 0 where
  pub sound : Sound N s
  pub below : level N s ≤ slots

-- what the optimizer asks for
pub record Optimizable (N : Network) (slots : ℕ) : Type 0 where
  pub well_formed : WellFormed N
  pub slots_most : slots ≤ most_cut_number

-- what it answers: a state whose level is as many slots
pub record Optimal (N : Network) (slots : ℕ) (s : State) : Type 0 where
  pub sound : Sound N s
  pub level_is : level N s ≡ slots
