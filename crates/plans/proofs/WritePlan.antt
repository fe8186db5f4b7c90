-- The numbers of a plan within the limits have a shortest form: list by list. Assumes nothing.
use mathlib.Core.Path.{◌≡◌, subst}
use mathlib.Core.List.{List, [], ◌∷◌}
use Prim.Native.Nat.{ℕ, suc, ◌+◌, ◌≤◌, ◌<◌}
use native.Mathlib.Omega.{arith}
use lib.ListN.{length, get_or}
use Rattle.limits.specs.Limits.{most_places, most_links, most_row_links}
use Rattle.numbers.specs.Writing.{Fit, Writable}
use Rattle.numbers.proofs.Stages.{fit_of, fit_append}
use Rattle.flows.specs.Rows as rows
use Rattle.flows.specs.Plan as model
use Rattle.plans.specs.declared.Plan.{Plan}
use Rattle.plans.specs.Record.{row_numbers, rows_numbers, numbers_of, record_of}
use Rattle.plans.specs.Held.{held_row, held, model_of}
use Rattle.plans.specs.InLimits.{RowInLimits, InLimits, past_row}
use Rattle.plans.specs.WritablePlan.{WritablePlan}
use Rattle.plans.proofs.Model.{count_held, row_held, model_held}
use Rattle.plans.proofs.FiveParts.{whole, plan_five, plan_whole}

module _ (links : ℕ) (m : links ≤ most_links) where
  row_fits : (r : rows.Row) → RowInLimits links r → Fit (row_numbers r)
  row_fits r w = (
    omega (arith, w.count.high),
    fit_append r.links _ (fit_of r.links (λ i h. omega (arith, w.numbers i h)))
        (omega (arith, w.long), (omega (arith, w.rate.high), (omega (arith, w.first), (omega (arith, w.departures.high), tt)))),
  )

  rows_fit : (rs : List rows.Row) → ((i : ℕ) → i < length rs → RowInLimits links (get_or rs i past_row)) → Fit (rows_numbers rs)
  rows_fit [] w = tt
  rows_fit (r ∷ rs) w = fit_append (row_numbers r) (rows_numbers rs) (row_fits r (w 0 (omega arith))) (rows_fit rs (λ i h. w (suc i) (omega arith)))

  plan_fits : (places : ℕ) (p : model.Plan) → InLimits places links p → Fit (numbers_of p)
  plan_fits places p w = (
    omega (arith, w.amount.high),
    (
      omega (arith, w.horizon.high),
      fit_append p.cut _ (fit_of p.cut (λ i h. omega (arith, w.cut i h))) (omega (arith, w.count.high), rows_fit p.rows w.rows),
    ),
  )

-- what `write` asks is enough to write the plan's five parts
pub plan_writable : (places : ℕ) (plan : Plan) (b : List ℕ) (start : ℕ) → WritablePlan places plan b start → Writable (whole (plan_five places plan)) b start
unfolding record_of
plan_writable places plan b start w =
    subst (λ (ns : List ℕ). Writable ns b start) (plan_whole places plan)
    (record { fit = plan_fits most_links (omega arith) places (model_of places plan) w.limits; room = omega (arith, w.room) })

-- fewer links make a narrower limit
row_fewer : (few many : ℕ) → few ≤ many → (r : rows.Row) → RowInLimits few r → RowInLimits many r
row_fewer few many h r w =
    record { count = w.count; numbers = λ i l. omega (arith, w.numbers i l); long = w.long; rate = w.rate; first = w.first; departures = w.departures }

pub limits_fewer : (few many : ℕ) → few ≤ many → (places : ℕ) (p : model.Plan) → InLimits places few p → InLimits places many p
limits_fewer few many h places p w = record {
  amount = w.amount;
  horizon = w.horizon;
  one_per_place = w.one_per_place;
  cut = w.cut;
  count = w.count;
  rows = λ i l. row_fewer few many h (get_or p.rows i past_row) (w.rows i l);
}

count_held_row : (r : rows.Row) → length r.links ≤ most_row_links → (held_row r).count ≤ most_row_links
unfolding held_row
count_held_row r h = h

-- the struct of a plan within the limits can be written from a position on behind which there is room
pub held_writable : (places links : ℕ) (p : model.Plan) (b : List ℕ) (start : ℕ) → places ≤ most_places → links ≤ most_links
    → InLimits places links p → start + length (record_of p) ≤ length b → WritablePlan places (held p) b start
held_writable places links p b start n m w r =
    let e : model_of places (held p) ≡ p = model_held p places w.one_per_place in
    record {
      few = n;
      countable = record {
        count = omega (arith, count_held p, w.count.high);
        links = λ i h.
            let l : i < length p.rows = omega (arith, count_held p) in
            rw (row_held p i l) (count_held_row (get_or p.rows i past_row) (w.rows i l).count.high);
      };
      limits = rw e (limits_fewer links most_links m places p w);
      room = rw e (omega (arith, r));
    }
