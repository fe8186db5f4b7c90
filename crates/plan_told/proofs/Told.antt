-- The numbers told are those of the answer, variant by variant: the answer is rewritten by what its function promises. Assumes nothing.
use mathlib.Core.Path.{◌≡◌, sym, ap}
use mathlib.Core.List.{List}
use Prim.Native.Nat.{ℕ}
use Rattle.std.specs.Prelude.{Ok, Err}
use Rattle.refusals.specs.declared.Refusal.{Refusal}
use Rattle.refusals.specs.Numbers.{number_of}
use Rattle.planner.specs.declared.Written.{Written}
use Rattle.planner.specs.Promise.{Planned, plan_refusal_of, horizon_of, plan_length_of, Promised}
use Rattle.plan_told.specs.PlanTold.{PlanTold}

module _ (octets : List ℕ) (amount : ℕ) (before after : List ℕ) (answer : Planned) (p : Promised octets amount before after answer) where
  pub plan_refused : (e : Refusal) → answer ≡ Err e → PlanTold octets amount before after 0 0 (number_of e)
  plan_refused e g =
      record {
        answer = answer;
        promised = p;
        refusal_told = sym (ap plan_refusal_of g);
        horizon_told = sym (ap horizon_of g);
        length_told = sym (ap plan_length_of g);
      }

  pub plan_told : (w : Written) → answer ≡ Ok w → PlanTold octets amount before after w.horizon w.length 0
  plan_told w g =
      record {
        answer = answer;
        promised = p;
        refusal_told = sym (ap plan_refusal_of g);
        horizon_told = sym (ap horizon_of g);
        length_told = sym (ap plan_length_of g);
      }
