-- `certificate::make` meets its contract: what the quickest flow promises is what taking it apart asks for, and the two together are a
-- certificate. Assumes nothing.
use Prim.Native.Nat.{ℕ}
use native.Mathlib.Nat.{le_trans}
use native.Mathlib.Omega.{arith}
use Rattle.flows.specs.Span.{spanning}
use Rattle.flows.specs.Network.{Network}
use Rattle.flows.proofs.Clock.{spanning_least, spanning_most}
use Rattle.quickest.specs.declared.Quickest.{Quickest}
use Rattle.quickest.specs.Quickest.{IsQuickest, Plannable}
use Rattle.decompose.specs.Fills.{Framed}
use Rattle.certificate.proofs.Certificate.{made}
use Rattle.certificate.proofs.make.Goals as goal

framed : {N : Network} {amount : ℕ} (q : Quickest) → Plannable N amount → IsQuickest N amount q → Framed N q.state.potential (spanning q.slots)
framed q plannable quick =
    let p = quick.sound in
    record {
      horizon = record { low = spanning_least q.slots (omega (arith, quick.before)); high = spanning_most q.slots quick.limit };
      size = omega (arith, p.potentials, plannable.well_formed.places_most);
      potentials = λ u. le_trans (p.at_most u) p.limit;
    }

pub returns : goal.returns
returns c =
    let q = c.find-slots in
    let filled = c.fill-plan.ensures in
    record {
      countable = filled.countable c.spanning-plan.result q.result.state.potential;
      made = rw c.spanning-plan.ensures
          (made c.args.graph.now.formed q.ensures
          (filled.fills (spanning q.result.slots) q.result.state.potential (framed q.result c.requires.0 q.ensures)));
    }
