-- `examiner::examine` meets its contract: what the two readers and the judging ensure, put together. Assumes nothing.
use mathlib.Core.Path.{ap₂, ◌∙◌}
use Prim.Native.Nat.{ℕ}
use Rattle.std.proofs.lemmas.Result.{err_from_is_err_and}
use Rattle.network.proofs.Links.{places_few, links_some, links_few}
use Rattle.network.proofs.Answers as networks
use Rattle.plans.proofs.Answers as plans
use Rattle.examiner.specs.Examine.{Verdict}
use Rattle.examiner.proofs.Reading.{read_given, promised, examined_refused, examined_plan_refused, examined_verdict}
use Rattle.examiner.proofs.examine.Goals as goal
use Rattle.examiner.proofs.examine.Goals.{In_ok-network, In_ok-plan}

-- what was read, where it was accepted
network_read : (c : In_ok-network) → networks.WasRead c.args.octets.now c.in_ok-network.network
network_read c = networks.was_read _ _ c.in_ok-network.ensures

plan_read : (c : In_ok-plan)
    → plans.WasRead c.args.octets.now c.in_ok-network.network.places c.in_ok-network.network.count c.args.plan.now c.in_ok-plan.plan
plan_read c = plans.was_read _ _ _ _ (links_some _ (network_read (goal.at.In_ok-plan c).In_ok-network).well_formed) _ c.in_ok-plan.ensures

pub returns-in_err-network : goal.returns-in_err-network
returns-in_err-network c =
    let p = err_from_is_err_and c.from_residual.result c.from_residual.ensures.1 in
    rw (p.1, p.2) (promised _ _ _ (examined_refused _ _ _ (networks.was_refused _ _ c.in_err-network.ensures)))

pub read-requires-2 : goal.read-requires-2
read-requires-2 c =
    let formed = (network_read (goal.at.read-requires-2 c).In_ok-network).well_formed in
    (places_few _ formed, links_some _ formed, links_few _ formed)

pub returns-in_err-plan : goal.returns-in_err-plan
returns-in_err-plan c =
    let p = err_from_is_err_and c.from_residual-in_err-plan.result c.from_residual-in_err-plan.ensures.1 in
    let net = network_read (goal.at.returns-in_err-plan c).In_ok-network in
    rw (p.1, p.2) (promised _ _ _ (examined_plan_refused _ _ _ net _ (plans.was_refused _ _ _ _ _ c.in_err-plan.ensures)))

pub judge-requires : goal.judge-requires
judge-requires c = read_given (network_read (goal.at.judge-requires c).In_ok-network) (plan_read (goal.at.judge-requires c).In_ok-plan)

pub returns : goal.returns
returns c =
    let net = network_read (goal.at.returns c).In_ok-network in
    let plan = plan_read (goal.at.returns c).In_ok-plan in
    promised _ _ _
    (ap₂ (λ (v b : ℕ). Verdict v b) c.judge.ensures.verdict c.judge.ensures.bound ∙ examined_verdict _ _ _ net _ plan)
