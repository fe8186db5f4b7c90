-- `judge::judge` meets its contract: the rows' fault decides, and then the cut's. Assumes nothing.
use mathlib.Core.Path.{◌≡◌, sym, ap, ◌∙◌}
use Prim.Native.Nat.{◌<◌}
use native.Mathlib.Omega.{arith}
use Rattle.flows.specs.Cut.{bound}
use Rattle.network.specs.Held as network
use Rattle.plans.specs.Held as plans
use Rattle.plans.proofs.Model.{horizon_model, cut_model}
use Rattle.first_fault.specs.Faults.{rows_fault}
use Rattle.first_fault.specs.Verdicts.{number_of}
use Rattle.judge.proofs.Verdicts.{some_number, verdict_rows, verdict_cut}
use Rattle.judge.proofs.judge.Goals as goal

pub invariant_of-given : goal.invariant_of-given
invariant_of-given c = record { given = c.requires }

pub cut_fault-requires-clause-well_formed : goal.cut_fault-requires-clause-well_formed
cut_fault-requires-clause-well_formed c =
    (c.requires.well_formed, omega (arith, c.requires.in_limits.horizon.low, horizon_model c.args.network.now.places c.args.plan.now))

pub returns-in-Passes-clause-verdict : goal.returns-in-Passes-clause-verdict
unfolding plans.model_of
returns-in-Passes-clause-verdict c =
    let none : rows_fault (network.model_of c.args.network.now) (plans.model_of c.args.network.now.places c.args.plan.now) ≡ 0 =
    sym (rw c.in-Passes.is at c.rows_fault-fault.ensures) in
    c.cut_fault.ensures ∙ verdict_cut (network.model_of c.args.network.now) (plans.model_of c.args.network.now.places c.args.plan.now) none

pub returns-in-Passes-clause-bound : goal.returns-in-Passes-clause-bound
returns-in-Passes-clause-bound c =
    c.bound-bound.ensures ∙ ap (bound (network.model_of c.args.network.now)) (sym (cut_model c.args.network.now.places c.args.plan.now))

pub returns-in_default : goal.returns-in_default
returns-in_default c =
    let is = c.rows_fault-fault.ensures in
    let some : 0 < number_of c.rows_fault-fault.result = some_number _ c.in_default.not-Passes in
    record {
      verdict = is ∙ verdict_rows (network.model_of c.args.network.now) (plans.model_of c.args.network.now.places c.args.plan.now) (rw is at some);
      bound = c.bound-bound.ensures ∙ ap (bound (network.model_of c.args.network.now)) (sym (cut_model c.args.network.now.places c.args.plan.now));
    }
