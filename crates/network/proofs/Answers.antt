-- What a caller of `read` learns from its answer. Assumes nothing.
use mathlib.Core.Path.{◌≡◌, refl, sym, ap, subst, ◌∙◌}
use mathlib.Core.List.{List, []}
use Prim.Native.Nat.{ℕ}
use native.Mathlib.Omega.{arith}
use Rattle.std.specs.Prelude.{Ok, Err}
use Rattle.refusals.specs.declared.Refusal.{Refusal}
use Rattle.numbers.specs.Field.{Parse, refused, accepted}
use Rattle.flows.specs.Network.{WellFormed}
use Rattle.flows.specs.Network as model
use Rattle.network.specs.declared.Network.{Network}
use Rattle.network.specs.Record.{read_network}
use Rattle.network.specs.Held as held
use Rattle.network.proofs.Holding.{model_held}
use Rattle.network.proofs.WellFormed.{well_formed, nothing_remains}

-- a network that was read, as its struct holds it: with zeros after the last link
pub record WasRead (s : List ℕ) (net : Network) : Type 0 where
  pub reads : read_network s ≡ accepted (held.model_of net) []
  pub holds : net ≡ held.held (held.model_of net)
  pub well_formed : WellFormed (held.model_of net)

module _ (s : List ℕ) where
  -- what reading answers tells what the octets are read as
  pub was_refused : (e : Refusal) → Err e ≡ held.read_answer (read_network s) → read_network s ≡ refused e
  unfolding held.read_answer
  was_refused e answers = go (read_network s) answers
    where
      go : (p : Parse model.Network) → Err e ≡ held.read_answer p → p ≡ refused e
      go (refused d) h = let q : e ≡ d = cc in ap refused (sym q)
      go (accepted N rest) h = absurd (let z : ◌≡◌ {A = ℕ} 0 1 = cc in omega arith)

  pub was_read : (net : Network) → Ok net ≡ held.read_answer (read_network s) → WasRead s net
  unfolding held.read_answer
  was_read net answers = go (read_network s) refl answers
    where
      go : (p : Parse model.Network) → read_network s ≡ p → Ok net ≡ held.read_answer p → WasRead s net
      go (refused e) f h = absurd (let z : ◌≡◌ {A = ℕ} 0 1 = cc in omega arith)
      go (accepted N rest) f h =
          let same : net ≡ held.held N = cc in
          let m : N ≡ held.model_of net = sym (model_held N) ∙ ap held.model_of (sym same) in
          let z : rest ≡ [] = nothing_remains s N rest f in
          record {
            reads = f ∙ (λ i. accepted (m i) (z i));
            holds = same ∙ ap held.held m;
            well_formed = subst WellFormed m (well_formed s N rest f);
          }
