-- `accepts` puts its parts together. Assumes nothing.
use mathlib.Core.Path.{◌≡◌, ◌∙◌, sym}
use mathlib.Core.Bool.{false≢true}
use native.Mathlib.Omega.{arith}
use lib.Dec.{leb→le}
use lib.ListN.{length}
use borrow.Author.Rules.{rules}
use Rattle.limits.specs.Limits.{most_links, most_places}
use Rattle.flows.proofs.Sums.{true_test}
use Rattle.network.proofs.Links.{places_few, origin_in, destination_in}
use Rattle.soundness.proofs.Tests.{sound}
use Rattle.soundness.proofs.accepts.Goals as goal
use Rattle.soundness.proofs.accepts.Goals.{then-state-le-MOST_VALUE, else-state-le-MOST_VALUE, then-rises, else-rises}

pub rises-requires : goal.rises-requires
rises-requires c =
    let formed = c.requires in (
      omega (arith, origin_in _ formed, places_few _ formed),
      omega (arith, destination_in _ formed, places_few _ formed),
    )

pub returns-then-links_fit : goal.returns-then-links_fit
returns-then-links_fit c = λ e.
    let flows : length c.args.state.now.flow ≡ most_links = search rules in
    let potentials : length c.args.state.now.potential ≡ most_places = search rules in
    elim c.if-rises.branch [
      | then-rises w ↦ elim c.if-state-le-MOST_VALUE.branch [
        | then-state-le-MOST_VALUE v ↦
            sound _ c.requires c.args.state.now (w.links_fit.ensures (sym w.value-is ∙ c.if-links_fit.true)) (c.balances.ensures e) flows potentials (v.rises.ensures (sym v.value-is ∙ w.if-rises.true))
        | else-state-le-MOST_VALUE v ↦ absurd (omega (arith, leb→le c.args.state.now.value 2560000 (true_test _ (sym v.value-is ∙ w.if-rises.true))))
      ]
      | else-rises w ↦ absurd (false≢true (sym w.if-rises.false ∙ sym w.value-is ∙ c.if-links_fit.true))
    ]
