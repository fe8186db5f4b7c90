-- The quickest static flow for an amount: one static flow that serves the least horizon T with its rows, and T - 1 with its
-- potentials as the cut.
use Rattle.std.specs.Prelude.{◌≡◌, List, ℕ, ◌+◌, ◌*◌, ◌≤◌, ◌<◌}
use Rattle.std.specs.declared.ops.ControlFlow.{ControlFlow}
use Rattle.std.specs.declared.ops.ControlFlow.TheVariants.{Continue, Break}
use Rattle.limits.specs.Limits.{least_amount, most_amount, most_cut_number}
use Rattle.flows.specs.Network.{Network, WellFormed}
use Rattle.flows.specs.Cut.{number, bound}
use Rattle.statics.specs.Static.{cost}
use Rattle.statics.specs.Reach.{IsRoute}
use Rattle.residual.specs.declared.Tree.{Tree}
use Rattle.residual.specs.Tree.{Searched}
use Rattle.states.specs.declared.State.{State}
use Rattle.states.specs.State.{Sound}
use Rattle.states.specs.Steps.{zero_state}
use Rattle.quickest.specs.declared.Quickest.{Quickest}

pub record IsQuickest (N : Network) (amount : ℕ) (q : Quickest) : Type 0 where
  pub sound : Sound N q.state
  -- the potentials are a cut for T - 1, and its bound is below the amount
  pub before : q.slots ≡ number q.state.potential N.destination + 1
  pub too_short : bound N q.state.potential < amount
  -- the flow delivers the amount by T
  pub enough : amount + cost N q.state.flow ≤ q.slots * q.state.value
  pub limit : q.slots ≤ most_cut_number

-- what planning asks for: an amount within its limits, and a route to the destination
pub record Plannable (N : Network) (amount : ℕ) : Type 0 where
  pub well_formed : WellFormed N
  pub least : least_amount ≤ amount
  pub most : amount ≤ most_amount
  pub links : List ℕ
  pub route : IsRoute N links

-- what the first search finds: under no flow and no potentials
abbrev pub FirstSearched : Network → Tree → Type 0
FirstSearched N t = Searched N zero_state.flow zero_state.potential t

-- a state that is optimal for a horizon still too short for the amount
pub record TooShort (N : Network) (amount : ℕ) (s : State) : Type 0 where
  pub sound : Sound N s
  pub bounded : bound N s.potential < amount

-- what a turn leaves: the quickest flow, or, where the search goes on, a flow of more value that is still too short
abbrev pub Turned : Network → ℕ → State → ControlFlow Quickest State → Type 0
Turned N amount s (Break q) = IsQuickest N amount q
Turned N amount s (Continue r) = TooShort N amount r × (s.value < r.value)
