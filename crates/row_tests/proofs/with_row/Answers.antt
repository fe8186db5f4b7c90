-- `row_tests::with_row` meets its contract: each part of what was seen, with what the row adds. Assumes nothing.
use mathlib.Core.Path.{◌≡◌, ap, ◌∙◌}
use mathlib.Core.Bool.{Bool, not, ◌||◌}
use Prim.Native.Nat.{ℕ, ◌+◌}
use native.Mathlib.Omega.{arith}
use lib.Dec.{ltb, eqb}
use Rattle.flows.specs.Clock.{counting}
use Rattle.plans.specs.Held.{row_of}
use Rattle.row_tests.proofs.Lasting.{lasting_same, row_lasting}
use Rattle.row_tests.proofs.with_row.Goals as goal
use Rattle.row_tests.proofs.with_row.Goals.{then-seen, else-seen, then-seen-2, else-seen-2, then-seen-3, else-seen-3}

pub returns : goal.returns
returns c =
    let seen = c.args.seen in
    let row = c.args.row.now in
    let length = c.duration-length.result in
    let blocks = c.blocks-2.ensures in
    let unchained : c.if-seen.result ≡ (seen.unchained || c.strays-stray.result) =
    elim c.if-seen.branch [ then-seen w ↦ rw w.if-seen.true (w.result-is ∙ w.if-seen.true) | else-seen w ↦ rw w.if-seen.false w.result-is ] in
    let mismeasured : c.if-seen-2.result ≡ (seen.mismeasured || not (eqb row.length length)) =
    elim c.if-seen-2.branch [ then-seen-2 w ↦ rw w.if-seen-2.true (w.result-is ∙ w.if-seen-2.true) | else-seen-2 w ↦ rw w.if-seen-2.false w.result-is ] in
    let late : c.if-seen-3.result ≡ (seen.late || c.comes_late-tardy.result) =
    elim c.if-seen-3.branch [ then-seen-3 w ↦ rw w.if-seen-3.true (w.result-is ∙ w.if-seen-3.true) | else-seen-3 w ↦ rw w.if-seen-3.false w.result-is ] in (
      λ net ends same given.
          let long = c.duration-length.ensures.0 ∙ lasting_same c.args.network.now.links net.links same (row_of row).links ∙ row_lasting net row given in
          let strays = unchained ∙ ap (λ (b : Bool). seen.unchained || b) (c.strays-stray.ensures net ends given) in
          let differs = mismeasured ∙ ap (λ (n : ℕ). seen.mismeasured || not (eqb row.length n)) long in
          let tardy =
          late
          ∙ ap (λ (b : Bool). seen.late || b)
          (c.comes_late-tardy.ensures ∙ ap (λ (n : ℕ). ltb (counting c.args.horizon) (row.first + row.departures + n)) long) in
          let total = ap (λ (b : ℕ). seen.total + b) blocks.0 in
          λ i. record { unchained = strays i; mismeasured = differs i; late = tardy i; total = total i },
      omega (arith, blocks.1),
    )
