-- A state whose level is as many slots as count of a horizon answers `most`: its flow and its potentials prove each other best. Assumes nothing.
use mathlib.Core.Path.{◌≡◌, refl, ◌∙◌}
use mathlib.Core.List.{List}
use Prim.Native.Nat.{ℕ, ◌-◌, ◌*◌, ◌≤◌}
use native.Mathlib.Omega.{arith}
use lib.ListN.{length}
use Rattle.std.specs.Prelude.{Ok}
use Rattle.flows.specs.Network.{Network, WellFormed}
use Rattle.flows.specs.Flow.{Most}
use Rattle.statics.specs.Static.{cost}
use Rattle.statics.proofs.PrimalDual.{state_duality, state_bound, state_cut, state_most}
use Rattle.statics.proofs.Holding.{most_is_unheld}
use Rattle.states.specs.declared.State.{State}
use Rattle.states.specs.State.{Sound}
use Rattle.states.specs.Steps.{level, spliced}
use Rattle.optimum.specs.Answering.{AnsweredFor}
use Rattle.states.proofs.Splice.{length_spliced, take_spliced, drop_spliced}

module _ {N : Network} {s : State} {k : ℕ} (w : WellFormed N) (p : Sound N s) (l : level N s ≡ k) where
  long : N.places ≤ length s.potential
  long = omega (arith, w.places_most, p.potentials)

  -- the cost is part of what the flow brings in them
  pub cost_most : cost N s.flow ≤ k * s.value
  cost_most = omega (arith, rw l at (state_duality w.connects p.primal_dual))

  pub answered : (before : List ℕ) → N.places ≤ length before → (c : ℕ) → c ≡ cost N s.flow
      → AnsweredFor N k before (spliced N.places s.potential before) (Ok (k * s.value - c))
  answered before lent c e H counts =
      let best : Most N H (k * s.value - cost N s.flow) =
      rw (← counts) at (state_most w.connects p.primal_dual H (l ∙ counts) long) in
      rw e
      (record {
        most = k * s.value - cost N s.flow;
        blocks = refl;
        refusal_number = refl;
        blocks_number = refl;
        is_most = best;
        is_most_unheld = most_is_unheld w.connects best;
        is_cut = rw (take_spliced N.places s.potential before long) (state_cut w.connects p.primal_dual H (l ∙ counts) long);
        proves = rw (take_spliced N.places s.potential before long, ← l) (state_bound w.connects p.primal_dual);
        rest = drop_spliced N.places s.potential before long;
        size = length_spliced N.places s.potential before long lent;
      })
