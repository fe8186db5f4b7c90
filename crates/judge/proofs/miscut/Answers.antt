-- `judge::miscut` meets its contract, by the cases of origin, destination and all places. Assumes nothing.
use mathlib.Core.Path.{◌≡◌, sym, ap, ◌∙◌}
use mathlib.Core.Bool.{true, false, not}
use Prim.Native.Nat.{ℕ, ◌-◌}
use native.Mathlib.Omega.{arith}
use borrow.Author.Tests.{ne_eqb}
use lib.ListN.{length-take}
use Rattle.network.proofs.Links.{places_few, origin_in, destination_in}
use Rattle.judge.proofs.CutTests.{apart, equal, above_is, miscut_origin, miscut_destination, miscut_above}
use Rattle.judge.proofs.miscut.Goals as goal
use Rattle.judge.proofs.miscut.Goals.{then-cut-a-ne0, else-cut-a-ne0}

pub bounds-cut-a : goal.bounds-cut-a
bounds-cut-a c = omega (arith, origin_in c.args.network.now c.requires.0, places_few c.args.network.now c.requires.0)

pub bounds-cut-b : goal.bounds-cut-b
bounds-cut-b c = omega (arith, destination_in c.args.network.now c.requires.0, places_few c.args.network.now c.requires.0)

pub shared_ref_as_front-above : goal.shared_ref_as_front-above
shared_ref_as_front-above c = omega (arith, places_few c.args.network.now c.requires.0)

pub slice_bounds-above-end : goal.slice_bounds-above-end
slice_bounds-above-end c = omega (arith, places_few c.args.network.now c.requires.0, length-take c.args.network.now.places c.args.cut.now)

pub returns-then-cut-b : goal.returns-then-cut-b
returns-then-cut-b c =
    let net = c.args.network.now in
    let H : ℕ = c.args.horizon - 1 in
    elim c.if-cut-a-ne0.branch [
      | then-cut-a-ne0 w ↦ c.if-cut-b.true ∙ miscut_origin net c.args.cut.now H c.requires.0 w.if-cut-a-ne0.true
      | else-cut-a-ne0 w ↦
          c.if-cut-b.true
          ∙ miscut_destination net c.args.cut.now H c.requires.0 _ c.counting-last.ensures w.if-cut-a-ne0.false (apart _ _ (sym w.value-is ∙ c.if-cut-b.true))
    ]

pub returns-else-cut-b : goal.returns-else-cut-b
returns-else-cut-b c =
    let net = c.args.network.now in
    let H : ℕ = c.args.horizon - 1 in
    elim c.if-cut-a-ne0.branch [
      | then-cut-a-ne0 w ↦ let z : true ≡ false = sym (ap not (ne_eqb _ 0 w.if-cut-a-ne0.true)) ∙ sym w.value-is ∙ c.if-cut-b.false in cc
      | else-cut-a-ne0 w ↦
          c.above.ensures
          ∙ above_is c.args.cut.now net.places c.counting-last.result (omega (arith, places_few net c.requires.0))
          ∙ miscut_above net c.args.cut.now H c.requires.0 _ c.counting-last.ensures w.if-cut-a-ne0.false (equal _ _ (sym w.value-is ∙ c.if-cut-b.false))
    ]
