-- `least_of` keeps the least of the distances passed. Assumes nothing.
use Rattle.std.proofs.Common.{ℕ, ◌+◌, ◌-◌, ◌≡◌, ◌<◌, ◌∙◌, ap, get_or, take, drop, arith}
use Rattle.std.proofs.lemmas.List.{get_or-take}
use Rattle.std.proofs.lemmas.Grind.{get_or_after_one}
use Rattle.nearest.proofs.Picked.{least_more}
use Rattle.nearest.proofs.least_of.Goals as goal

pub loop-w-preserved : goal.loop-w-preserved
loop-w-preserved c =
    let i = c.loop-w.w-index in
    let xs = c.args.waiting.now in
    let h : i < c.args.places - 1 = omega arith in
    let e : get_or (take (c.args.places - 1) (drop 1 xs)) i 0 ≡ get_or xs (i + 1) 0 =
    get_or-take (c.args.places - 1) (drop 1 xs) i 0 h ∙ get_or_after_one xs i 0 ∙ ap (λ (j : ℕ). get_or xs j 0) (omega arith) in
    rw (c.min-least.ensures, e) (least_more xs (i + 1) c.loop-w.least c.loop-w.invariant)
