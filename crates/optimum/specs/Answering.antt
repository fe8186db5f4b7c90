-- What `answer` asks for and promises: the promise of `most`, for the part of it that has a state.
use Rattle.std.specs.Prelude.{◌≡◌, List, ℕ, ◌≤◌, length, Result}
use Rattle.refusals.specs.declared.Refusal.{Refusal}
use Rattle.flows.specs.Clock.{counting}
use Rattle.flows.specs.Network.{Network, WellFormed}
use Rattle.states.specs.declared.State.{State}
use Rattle.states.specs.State.{Sound}
use Rattle.states.specs.Steps.{level}
use Rattle.optimum.specs.Promise.{Answered}

-- what the answer is made of: a state whose level is as many slots as count, and numbers lent for every place
pub record Answerable (N : Network) (s : State) (slots : ℕ) (lent : List ℕ) : Type 0 where
  pub well_formed : WellFormed N
  pub sound : Sound N s
  pub level_is : level N s ≡ slots
  pub enough : N.places ≤ length lent

-- the answer for every horizon of which as many slots count
abbrev pub AnsweredFor : Network → ℕ → List ℕ → List ℕ → Result ℕ Refusal → Type 0
AnsweredFor N slots before after answer = (horizon : ℕ) → slots ≡ counting horizon → Answered N horizon before after answer
