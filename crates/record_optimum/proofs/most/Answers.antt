-- `most`, return by return: each is one case of the promise. Assumes nothing.
use mathlib.Core.Path.{◌≡◌, refl, sym, ◌∙◌}
use Prim.Native.Nat.{◌≤◌}
use native.Mathlib.Omega.{arith}
use lib.ListN.{length}
use Rattle.std.specs.Prelude.{Ok}
use Rattle.std.proofs.lemmas.Result.{err_from_is_err_and}
use Rattle.limits.specs.Limits.{longest_horizon}
use Rattle.flows.proofs.Clock.{counting_most}
use Rattle.network.specs.Record.{read_network}
use Rattle.network.specs.Held.{model_of, read_answer}
use Rattle.network.proofs.Answers.{was_read}
use Rattle.optimum.proofs.Promises.{none_refused, promise_read, promise_refused, promise_answer}
use Rattle.record_optimum.proofs.most.Goals as goal
use Rattle.record_optimum.proofs.most.Goals.{In_ok-network, In_ok-refusal}

-- the record was read
network_read : (c : In_ok-network) → Ok c.in_ok-network.network ≡ read_answer (read_network c.args.octets.now)
network_read c = c.in_ok-network.ensures

-- horizon and list are within their limits
within : (c : In_ok-refusal)
    → (c.args.horizon ≤ longest_horizon) × (c.in_ok-network.network.places ≤ length c.args.cut.now)
unfolding model_of
within c = none_refused (model_of c.in_ok-network.network) _ _ _ (c.in_ok-refusal.ensures _ refl)

pub returns-in_err-network : goal.returns-in_err-network
returns-in_err-network c =
    let p = err_from_is_err_and c.from_residual.result c.from_residual.ensures.1 in
    rw (p.1, p.2) (promise_read _ _ _ _ c.in_err-network.ensures)

pub returns-in_err-refusal : goal.returns-in_err-refusal
unfolding model_of
returns-in_err-refusal c =
    let p = err_from_is_err_and c.from_residual-in_err-refusal.result c.from_residual-in_err-refusal.ensures.1 in
    rw (p.1, p.2) (promise_refused _ _ _ _ (network_read (goal.at.returns-in_err-refusal c).In_ok-network) _ (c.in_err-refusal.ensures _ refl))

pub overflow_cast-horizon : goal.overflow_cast-horizon
overflow_cast-horizon c = omega (arith, (within c).0)

pub counting-slots-requires : goal.counting-slots-requires
counting-slots-requires c = omega (arith, (within c).0)

pub optimum-state-requires : goal.optimum-state-requires
optimum-state-requires c =
    record {
      well_formed = (was_read _ _ (network_read (goal.at.optimum-state-requires c).In_ok-network)).well_formed;
      slots_most = omega (arith, c.counting-slots.ensures, counting_most c.args.horizon (within (goal.at.optimum-state-requires c).In_ok-refusal).0);
    }

pub answer-requires : goal.answer-requires
unfolding model_of
answer-requires c =
    record {
      well_formed = (was_read _ _ (network_read (goal.at.answer-requires c).In_ok-network)).well_formed;
      sound = c.optimum-state.ensures.sound;
      level_is = c.optimum-state.ensures.level_is ∙ sym c.from.ensures;
      enough = (within (goal.at.answer-requires c).In_ok-refusal).1;
    }

pub returns : goal.returns
unfolding model_of
returns c =
    promise_answer _ _ _ _ (network_read (goal.at.returns c).In_ok-network) _ _ _ (c.in_ok-refusal.ensures _ refl) (c.answer.ensures _ (c.from.ensures ∙ c.counting-slots.ensures))
