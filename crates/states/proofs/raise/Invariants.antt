-- `raise` stores one place's potential in a turn: the first v places are raised, the others as they were. Assumes nothing.
use Prim.Native.Nat.{ℕ}
use mathlib.Core.Path.{◌≡◌}
use Rattle.residual.specs.declared.Tree.{Tree}
use Rattle.states.specs.declared.State.{State}
use Rattle.states.specs.State.{raised}
use Rattle.states.specs.Steps.{spliced}
use Rattle.states.proofs.raise.Given as goal

-- the potentials of the first v places are raised
pub record Raising (by : ℕ) (state : State) (tree : Tree) (next : State) (v : ℕ) : Type 0 where
  pub flow : next.flow ≡ state.flow
  pub value : next.value ≡ state.value
  pub potential : next.potential ≡ spliced v (raised by state.potential tree.distance) state.potential

abbrev pub invariant-loop-v : goal.invariant-loop-v
invariant-loop-v l = Raising l.by l.state l.tree l.next l.v
