-- `total` meets its contract: after some turns the first rows are summed. Assumes nothing.
use Rattle.std.proofs.Common.{◌≡◌, ℕ, ◌+◌, ◌*◌, ◌<◌, ◌≤◌, length, get_or, take, ap, ◌∙◌, arith}
use Rattle.std.proofs.lemmas.List.{length-take, get_or-take}
use Rattle.limits.specs.Limits.{most_rate, most_departures}
use Rattle.plans.specs.declared.Plan.{Plan}
use Rattle.plans.specs.declared.Row.{Row}
use Rattle.plans.specs.Held.{past}
use Rattle.sheet_lines.proofs.Summing.{Summed, summed_more}
use Rattle.sheet_lines.proofs.total.Goals as goal

step : (plan : Plan) (sum i blocks : ℕ) → i < length (take plan.count plan.rows) → Summed plan sum i
    → (blocks ≡ (get_or (take plan.count plan.rows) i past).rate * (get_or (take plan.count plan.rows) i past).departures) × (blocks ≤ most_rate * most_departures)
    → Summed plan (sum + blocks) (i + 1)
step plan sum i blocks h s b =
    let below : i < plan.count = omega (arith, simp length-take at h) in
    let same = get_or-take plan.count plan.rows i past below in
    summed_more plan sum i blocks below s (b.0 ∙ ap (λ (r : Row). r.rate * r.departures) same, b.1)

pub loop-row-preserved : goal.loop-row-preserved
loop-row-preserved c = step c.args.plan _ _ _ c.loop-row-test.true c.loop-row.invariant c.blocks-brought.ensures
