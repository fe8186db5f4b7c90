-- `row_chains::leads` meets its contract. The loop's invariant: the links from j on lead from the place reached to the destination
-- exactly where the row's links lead to it from the origin. Assumes nothing.
use mathlib.Core.Path.{◌≡◌, sym, ap, ◌∙◌}
use Prim.Native.Nat.{ℕ, ◌+◌, ◌<◌}
use native.Mathlib.Omega.{arith}
use lib.ListN.{get_or, drop, length-take}
use lib.Seq.{get_or-take}
use Rattle.flows.specs.Plan as model
use Rattle.network.specs.Held.{model_of}
use Rattle.plans.specs.Held.{row_of}
use Rattle.row_chains.proofs.Chains.{leads_step, leads_stop}
use Rattle.row_chains.proofs.leads.Goals as goal

pub returns-then-link-at : goal.returns-then-link-at
returns-then-link-at c =
    let state = c.loop-number in
    let row = c.args.row.now in
    let j : ℕ = state.number-index in
    let inside : j < row.count = omega (arith, length-take row.count row.links) in
    let e : c.from.result ≡ get_or row.links j 0 = c.from.ensures ∙ get_or-take row.count row.links j 0 inside in
    λ net ends given.
    sym (state.invariant net ends given ∙ leads_stop net row given state.at c.args.network.now.destination j inside
    (λ q. (rw e at c.if-link-at.true) (sym (ends.is_start (get_or row.links j 0)) ∙ q)))

pub loop-number-preserved : goal.loop-number-preserved
loop-number-preserved c =
    let state = c.loop-number in
    let row = c.args.row.now in
    let j : ℕ = state.number-index in
    let inside : j < row.count = omega (arith, length-take row.count row.links) in
    let e : c.from.result ≡ get_or row.links j 0 = c.from.ensures ∙ get_or-take row.count row.links j 0 inside in
    λ net ends given.
    rw e
    (state.invariant net ends given
    ∙ leads_step net row given state.at c.args.network.now.destination j inside (ends.is_start (get_or row.links j 0) ∙ rw e at c.if-link-at.false)
    ∙ ap (λ (at : ℕ). model.leads (model_of net) at c.args.network.now.destination (drop (j + 1) (row_of row).links)) (ends.is_end (get_or row.links j 0)))
