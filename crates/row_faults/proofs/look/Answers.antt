-- `row_faults::look` meets its contract. The loop's invariant: the rows passed are filed, and what is seen is what they show. Assumes nothing.
use mathlib.Core.Path.{◌≡◌, refl, sym, ap, ◌∙◌}
use Prim.Native.Nat.{ℕ, ◌*◌, ◌<◌}
use native.Mathlib.Omega.{arith}
use lib.ListN.{length, get_or, take, length-take}
use lib.Seq.{get_or-take}
use Rattle.flows.specs.Rows.{all_uses}
use Rattle.network.specs.Held.{model_of}
use Rattle.plans.specs.declared.Plan.{Plan}
use Rattle.plans.specs.Held.{row_of, past, rows_below}
use Rattle.plans.specs.Held as plans
use Rattle.plans.proofs.Model.{rows_model}
use Rattle.row_uses.proofs.Given.{rows_few, given_row, lookable}
use Rattle.row_uses.proofs.Filing.{file_gap, all_uses_more}
use Rattle.row_tests.specs.declared.Seen.{Seen}
use Rattle.row_tests.specs.Seen.{seen_of, seen_with}
use Rattle.row_tests.proofs.Lent.{seen_of_lent}
use Rattle.row_tests.proofs.Tests.{seen_none, seen_below}
use Rattle.row_faults.proofs.Sizes.{file_size}
use Rattle.row_faults.proofs.look.Goals as goal

all_rows : (places : ℕ) (plan : Plan) (i : ℕ) → i ≡ plan.count → rows_below plan i ≡ (plans.model_of places plan).rows
all_rows places plan i done = ap (rows_below plan) done ∙ sym (rows_model places plan)

pub loop-i-init : goal.loop-i-init
loop-i-init g c =
    record { filed = c.requires.filed; seen-is = seen_none (model_of c.args.given.network.now) c.args.given.plan.now.horizon; total-most = omega arith }

-- the row at hand is one of the plan's
row_here : (plan : Plan) (i : ℕ) → i < length (take plan.count plan.rows)
    → (i < plan.count) × (get_or (take plan.count plan.rows) i past ≡ get_or plan.rows i past)
row_here plan i h =
    let inside : i < plan.count = omega (arith, length-take plan.count plan.rows, h) in
    (inside, get_or-take plan.count plan.rows i past inside)

pub file_row_in-requires : goal.file_row_in-requires
file_row_in-requires g c =
    let plan = c.args.given.plan.now in
    let here = row_here plan c.loop-i.i c.loop-i-test.true in
    let row = given_row c.args.given.network.now plan c.args.given.given c.loop-i.i here.0 in (
      file_size g.row.ROWS g.row.USES c.loop-i.file.few c.loop-i.file.all,
      rw here.1 (lookable _ _ row, omega (arith, here.0, c.requires.few)),
    )

pub with_row-seen-requires : goal.with_row-seen-requires
with_row-seen-requires g c =
    let plan = c.args.given.plan.now in
    let here = row_here plan c.loop-i.i c.loop-i-test.true in
    let row = given_row c.args.given.network.now plan c.args.given.given c.loop-i.i here.0 in
    rw here.1 (lookable _ _ row, omega (arith, c.loop-i.invariant.total-most, here.0, rows_few c.args.given.network.now plan c.args.given.given))

pub loop-i-preserved : goal.loop-i-preserved
loop-i-preserved g c =
    let state = c.loop-i in
    let plan = c.args.given.plan.now in
    let here = row_here plan state.i c.loop-i-test.true in
    let row = given_row c.args.given.network.now plan c.args.given.given state.i here.0 in
    let N = model_of c.args.given.network.now in
    let filed = rw here.1 at c.file_row_in.ensures in
    let seen = rw here.1 at c.with_row-seen.ensures in
    record {
      filed = rw (all_uses_more N plan state.i) at (filed c.args.given.network.now (λ e. refl) row _ state.invariant.filed);
      seen-is =
          seen_of_lent c.args.given.network.now _ _ _ _ seen.0 row
          ∙ ap (λ (s : Seen). seen_with N plan.horizon s (row_of (get_or plan.rows state.i past))) state.invariant.seen-is
          ∙ sym (seen_below N plan.horizon plan state.i);
      total-most = omega (arith, state.invariant.total-most, seen.1);
    }

pub returns : goal.returns
returns g c =
    let state = c.loop-i in
    let net = c.args.given.network.now in
    let plan = c.args.given.plan.now in
    let N = model_of net in
    let done : state.i ≡ plan.count =
    omega (arith, c.loop-i-test.false, length-take plan.count plan.rows, state.auto, rows_few net plan c.args.given.given) in
    let all : rows_below plan state.i ≡ (plans.model_of net.places plan).rows = all_rows net.places plan state.i done in (
      state.invariant.seen-is ∙ ap (seen_of N plan.horizon) all,
      rw (ap (all_uses N) all) at (file_gap _ _ _ (63 * state.i) (63 * plan.count) (omega arith) state.invariant.filed),
    )
