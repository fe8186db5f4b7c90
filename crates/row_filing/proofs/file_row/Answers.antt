-- `row_filing::file_row` meets its contract. The loop's invariant: behind what was filed stand the uses of the links passed. Assumes nothing.
use mathlib.Core.Path.{◌≡◌, refl, ap, ◌∙◌}
use mathlib.Core.List.{List}
use Prim.Native.Nat.{ℕ, ◌+◌, ◌*◌, ◌≤◌, ◌<◌}
use native.Mathlib.Omega.{arith}
use lib.ListN.{get_or, length-take, length-set}
use lib.Seq.{get_or-take}
use Rattle.flows.specs.declared.Link.{Link}
use Rattle.flows.specs.Network.{link, no_link}
use Rattle.network.specs.declared.Network.{Network}
use Rattle.network.specs.Held.{link_at, model_of}
use Rattle.network.proofs.Links.{transit_is}
use Rattle.plans.specs.declared.Row.{Row}
use Rattle.plans.specs.Held.{row_of}
use Rattle.row_uses.specs.Given.{GivenRow}
use Rattle.row_uses.proofs.Given.{links_length, links_at}
use Rattle.row_uses.proofs.Filing.{duration_more, file_terms, links_more, links_all}
use Rattle.limits.specs.Limits.{most_transit}
use Rattle.row_filing.proofs.file_row.Goals as goal

-- link j of the row takes its transit
same_transit : (links : List Link) (row : Row) (j : ℕ) → j < row.count → (net : Network) → ((e : ℕ) → (link_at net e).transit ≡ (get_or links e no_link).transit) → GivenRow net row
    → (link (model_of net) (get_or (row_of row).links j 0)).transit ≡ (get_or links (get_or row.links j 0) no_link).transit
same_transit links row j inside net is given =
    ap (λ (e : ℕ). (link (model_of net) e).transit) (links_at row given.stands j inside)
    ∙ transit_is net (get_or row.links j 0) (given.known j inside)
    ∙ is (get_or row.links j 0)

pub loop-j-preserved : goal.loop-j-preserved
loop-j-preserved c =
    let state = c.loop-j in
    let row = c.args.row.now in
    let j : ℕ = state.j in
    let inside : j < row.count = omega (arith, length-take row.count row.links) in
    let e : c.from-e.result ≡ get_or row.links j 0 = c.from-e.ensures ∙ get_or-take row.count row.links j 0 inside in
    let at : ℕ = 63 * c.args.i + j in
    let below : get_or row.links j 0 < 256 = c.requires.lookable.0.timed.few j inside in
    let short : (get_or c.args.links.now (get_or row.links j 0) no_link).transit ≤ most_transit = c.requires.lookable.0.timed.brief j inside in
    rw e
    (record {
      lag-most = omega (arith, state.invariant.lag-most, short);
      is-first = state.invariant.is-first;
      is-departures = state.invariant.is-departures;
      is-rate = state.invariant.is-rate;
      prev-kept = length-set state.prev at _ ∙ state.invariant.prev-kept;
      lags-kept = length-set state.lags at _ ∙ state.invariant.lags-kept;
      heads-kept = length-set state.head _ _ ∙ state.invariant.heads-kept;
      behind =
          λ net is given.
          let before = state.invariant.behind net is given in
          record {
            lag-is =
                omega (
                  arith,
                  before.lag-is,
                  duration_more (model_of net) (row_of row).links j (omega (arith, links_length row given.stands)),
                  same_transit c.args.links.now row j inside net is given,
                );
            filed =
                λ us filed. links_more net row given c.args.i us
                _ state.head at j state.lag inside refl before.lag-is
                state.invariant.is-first state.invariant.is-departures state.invariant.is-rate
                (omega (arith, state.invariant.prev-kept, c.requires.most_links_in_bounds.1.for_prev)) (omega (arith, state.invariant.lags-kept, c.requires.most_links_in_bounds.1.for_lags))
                (omega (arith, below, state.invariant.heads-kept, c.requires.most_links_in_bounds.0)) (before.filed us filed);
          };
    })

pub returns : goal.returns
returns c =
    let state = c.loop-j in
    λ net is given us filed.
    links_all net c.args.row.now given c.args.i us _ state.head state.j
    (omega (arith, c.loop-j-test.false, length-take c.args.row.now.count c.args.row.now.links, given.stands.size, given.stands.full))
    ((state.invariant.behind net is given).filed us
    (file_terms _ _ us c.args.i c.args.row.now.first c.args.row.now.departures c.args.row.now.rate filed c.requires.lookable.0.first
    c.requires.lookable.0.departures))
