-- What a caller of `read` learns from its answer. Assumes nothing.
use mathlib.Core.Path.{◌≡◌, refl, sym, ap, subst, ◌∙◌}
use mathlib.Core.List.{List, []}
use Prim.Native.Nat.{ℕ, ◌≤◌}
use native.Mathlib.Omega.{arith}
use Rattle.std.specs.Prelude.{Ok, Err}
use Rattle.refusals.specs.declared.Refusal.{Refusal}
use Rattle.numbers.specs.Field.{Parse, refused, accepted}
use Rattle.flows.specs.Plan as model
use Rattle.plans.specs.declared.Plan.{Plan}
use Rattle.plans.specs.Carried.{read_carrying}
use Rattle.plans.specs.Held.{held, model_of, read_answer}
use Rattle.plans.specs.InLimits.{InLimits}
use Rattle.plans.proofs.Model.{model_held}
use Rattle.plans.proofs.Carried.{carrying_no_rest, carrying_in_limits}

-- a plan that was read, as its struct holds it
pub record WasRead (network : List ℕ) (places links : ℕ) (s : List ℕ) (plan : Plan) : Type 0 where
  pub reads : read_carrying network places links s ≡ accepted (model_of places plan) []
  pub in_limits : InLimits places links (model_of places plan)
  pub holds : plan ≡ held (model_of places plan)

module _ (network : List ℕ) (places links : ℕ) (s : List ℕ) where
  -- what reading answers tells what the octets are read as
  pub was_refused : (e : Refusal) → Err e ≡ read_answer (read_carrying network places links s) → read_carrying network places links s ≡ refused e
  unfolding read_answer
  was_refused e answers = go (read_carrying network places links s) answers
    where
      go : (p : Parse model.Plan) → Err e ≡ read_answer p → p ≡ refused e
      go (refused d) h = let q : e ≡ d = cc in ap refused (sym q)
      go (accepted p rest) h = absurd (let z : ◌≡◌ {A = ℕ} 0 1 = cc in omega arith)

  pub was_read : 1 ≤ links → (plan : Plan) → Ok plan ≡ read_answer (read_carrying network places links s) → WasRead network places links s plan
  unfolding read_answer
  was_read l plan answers = go (read_carrying network places links s) refl answers
    where
      go : (q : Parse model.Plan) → read_carrying network places links s ≡ q → Ok plan ≡ read_answer q → WasRead network places links s plan
      go (refused e) f h = absurd (let z : ◌≡◌ {A = ℕ} 0 1 = cc in omega arith)
      go (accepted p rest) f h =
          let w : InLimits places links p = carrying_in_limits network places links s p rest f l in
          let d : plan ≡ held p = cc in
          let m : p ≡ model_of places plan = sym (model_held p places w.one_per_place) ∙ ap (model_of places) (sym d) in
          let z : rest ≡ [] = carrying_no_rest network places links s p rest f in
          record {
            reads = f ∙ (λ i. accepted (m i) (z i));
            in_limits = subst (InLimits places links) m w;
            holds = d ∙ ap held m;
          }
