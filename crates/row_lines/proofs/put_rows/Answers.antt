-- `put_rows` meets its contract: after i turns the first i rows stand in their lines, and each turn puts the next into the part after
-- them. Assumes nothing.
use Rattle.std.proofs.Common.{◌≡◌, ℕ, List, ◌<◌, ◌≤◌, length, get_or, take, sym, ap, arith, rules}
use Rattle.std.proofs.lemmas.List.{length-take, get_or-take}
use Rattle.limits.specs.Limits.{most_rows}
use Rattle.flows.specs.Rows as rows
use Rattle.plans.specs.declared.Plan.{Plan}
use Rattle.plans.specs.Held.{row_of, past}
use Rattle.texts.proofs.Putting.{put_same, fits_same}
use Rattle.texts.proofs.InOrder.{upto_more, upto_all, upto_part}
use Rattle.row_lines.proofs.Rows.{line_of, rows_order}
use Rattle.row_lines.proofs.put_rows.Goals as goal

below_count : {A : Type 0} (n i : ℕ) (xs : List A) → i < length (take n xs) → i < n
below_count n i xs h = omega (arith, simp length-take at h)

-- an array of as many rows as a plan may have
all_counted : {A : Type 0} (n i : ℕ) (xs : List A) → n ≤ most_rows → length xs ≡ 257 → length (take n xs) ≤ i → n ≤ i
all_counted n i xs few full h = omega (arith, simp length-take at h)

-- what is put in turn i
turn : (line : ℕ → rows.Row → List ℕ) (plan : Plan) (i : ℕ) → i < plan.count
    → line i (row_of (get_or (take plan.count plan.rows) i past)) ≡ line_of line plan i
turn line plan i h = ap (λ r. line i (row_of r)) (get_or-take plan.count plan.rows i past h)

pub put-at-requires-clause-room : goal.put-at-requires-clause-room
put-at-requires-clause-room g c =
    let below = below_count _ _ _ c.loop-i-test.true in
    fits_same _ _ (sym (turn g.L.Line.line c.args.plan c.loop-i.i below))
    (upto_part _ _ _ _ _ _ c.loop-i.invariant below (fits_same _ _ (rows_order g.L.Line.line c.args.plan c.args.plan.count) c.requires.room))

pub loop-i-preserved : goal.loop-i-preserved
loop-i-preserved g c =
    let below = below_count _ _ _ c.loop-i-test.true in
    upto_more _ _ _ _ _ _ _ _ below c.loop-i.invariant (put_same (turn g.L.Line.line c.args.plan c.loop-i.i below) c.put-at.ensures)

pub returns : goal.returns
returns g c =
    put_same (sym (rows_order g.L.Line.line c.args.plan c.args.plan.count))
    (upto_all _ _ _ _ _ _ (all_counted _ _ _ c.requires.count (search rules) c.loop-i-test.false) c.loop-i.invariant)
