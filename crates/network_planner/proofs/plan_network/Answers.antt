-- `network_planner::plan_network` meets its contract: the first search found a route, and the plan that was made is written, or it found none.
-- Assumes nothing.
use mathlib.Core.Path.{◌≡◌, refl, subst, subst⁻¹}
use mathlib.Core.List.{List}
use Prim.Native.Nat.{ℕ, ◌≤◌}
use native.Mathlib.Omega.{arith}
use Rattle.flows.specs.Plan as model
use Rattle.network.specs.declared.Network.{Network}
use Rattle.network.specs.Record.{record_of}
use Rattle.network.specs.Held.{model_of}
use Rattle.network.proofs.Model.{places_model}
use Rattle.plans.specs.declared.Plan.{Plan}
use Rattle.plans.specs.Held as plans
use Rattle.plans.specs.WritablePlan.{Countable, WritablePlan}
use Rattle.plan_carrier.specs.Carriable.{opening, Carriable}
use Rattle.plan_carrier.proofs.Carrying.{Front, body_fits, carried}
use Rattle.quickest.specs.Quickest.{FirstSearched}
use Rattle.certificate.specs.Made.{Made}
use Rattle.planner.specs.Askable.{Askable}
use Rattle.planner.specs.Promise.{Planned, PlannedFor}
use Rattle.network_planner.proofs.First.{first_searchable, first_searched, plannable, reachable, lost_unreachable}
use Rattle.planner.proofs.Bringing.{unreachable, short, in_limits, fits, opening_fits, planned}
use Rattle.network_planner.proofs.plan_network.Goals as goal
use Rattle.network_planner.proofs.plan_network.Goals.{After-search-tree, After-write_copy-body}

-- the network's record can be written in front of a plan that was made, and the plan behind it: there is room from its end on, or before
carriable : (net : Network) {amount : ℕ} {before : List ℕ} {p : model.Plan} → Askable (model_of net) amount before → Made (model_of net) amount p
    → Carriable (record_of (model_of net)) before
carriable net asked made = record { short = short asked; room = opening_fits asked made }

writable : (net : Network) {amount : ℕ} {before after : List ℕ} {body position : ℕ} {plan : Plan} → Askable (model_of net) amount before → Countable plan
    → Made (model_of net) amount (plans.model_of net.places plan) → Front (opening (record_of (model_of net))) before after body → position ≤ body
    → WritablePlan net.places plan after position
writable net {plan} asked countable made opened behind =
    record {
      few = omega (arith, asked.well_formed.places_most, places_model net);
      countable = countable;
      limits = rw (places_model net) at (in_limits asked made);
      room = omega (arith, behind, body_fits (record_of (model_of net)) (plans.model_of net.places plan) _ _ _ opened (fits asked made));
    }

first : (c : After-search-tree) → FirstSearched (model_of c.new-graph.result.network) c.search-tree.result
first c = first_searched c.new-graph.result.formed c.begin-idle.ensures c.search-tree.ensures

-- ---- the graph's network is the one that was read

module _ {net read : Network} (is : net ≡ read) where
  asks : {amount : ℕ} {buffer : List ℕ} → Askable (model_of read) amount buffer → Askable (model_of net) amount buffer
  asks {amount} {buffer} asked = subst⁻¹ (λ (n : Network). Askable (model_of n) amount buffer) is asked

  -- the octets are its record
  is_record : {octets : List ℕ} → octets ≡ record_of (model_of read) → octets ≡ record_of (model_of net)
  is_record {octets} e = subst⁻¹ (λ (n : Network). octets ≡ record_of (model_of n)) is e

  promised : (amount : ℕ) (before after : List ℕ) (answer : Planned) → PlannedFor (model_of net) amount before after answer
      → PlannedFor (model_of read) amount before after answer
  promised amount before after answer p = subst (λ (n : Network). PlannedFor (model_of n) amount before after answer) is p

-- the octets in front of the plan are those of the network's record
opens : (c : After-write_copy-body)
    → Front (opening (record_of (model_of c.new-graph.result.network))) c.args.buffer.now c.write_copy-body.new.buffer c.write_copy-body.result
opens c =
    subst (λ (o : List ℕ). Front (opening o) c.args.buffer.now c.write_copy-body.new.buffer c.write_copy-body.result)
    (is_record c.new-graph.ensures c.requires.1) c.write_copy-body.ensures

-- ---- the needs

pub new-graph-requires : goal.new-graph-requires
new-graph-requires c = c.requires.0.well_formed

pub search-tree-requires : goal.search-tree-requires
search-tree-requires c = (first_searchable c.new-graph.result.formed c.begin-idle.ensures, c.new-graph.result.indexed)

pub make-requires : goal.make-requires
make-requires c =
    let after_search_tree = (goal.at.make-requires c).After-search-tree in
    let asked = c.requires.0 in (
      plannable c.new-graph.result.formed (first after_search_tree) c.if-tree.true asked.low asked.high,
      first after_search_tree,
    )

pub write_copy-body-requires : goal.write_copy-body-requires
write_copy-body-requires c =
    let is = c.new-graph.ensures in
    subst⁻¹ (λ (o : List ℕ). Carriable o c.args.buffer.now) (is_record is c.requires.1)
    (carriable c.new-graph.result.network (asks is c.requires.0) c.make.ensures.made)

pub write-length-requires : goal.write-length-requires
write-length-requires c =
    let made = c.make.ensures in
    writable c.new-graph.result.network (asks c.new-graph.ensures c.requires.0) made.countable made.made
    (opens (goal.at.write-length-requires c).After-write_copy-body) (omega arith)

pub returns-then-tree : goal.returns-then-tree
unfolding plans.model_of
returns-then-tree c =
    let at = goal.at.returns-then-tree c in
    let asked = asks c.new-graph.ensures c.requires.0 in
    let whole = carried _ _ _ _ _ (opens at.After-write_copy-body) (fits asked c.make.ensures.made) _ _ c.write-length.ensures in
    promised c.new-graph.ensures _ _ _ _
    (planned asked c.make.ensures.made (reachable c.new-graph.result.formed (first at.After-search-tree) c.if-tree.true)
    _ _ _ whole.1 refl whole.0)

pub returns : goal.returns
returns c =
    let at = goal.at.returns c in
    promised c.new-graph.ensures _ _ _ _
    (unreachable (asks c.new-graph.ensures c.requires.0) (lost_unreachable c.new-graph.result.formed (first at.After-search-tree) c.if-tree.false))
