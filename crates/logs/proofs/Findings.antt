-- The finding and the figure by the two tests. Assumes nothing.
use mathlib.Core.Path.{◌≡◌}
use mathlib.Core.List.{List}
use mathlib.Core.Bool.{true, false}
use Prim.Native.Nat.{suc}
use Rattle.flows.specs.Network.{Network}
use Rattle.flows.specs.Flow.{delivered}
use Rattle.logs.specs.declared.Entry.{Entry}
use Rattle.logs.specs.Log.{logged, last_slot}
use Rattle.logs.specs.Finding.{overfull, oversent, finding, figure}

module _ (N : Network) (es : List Entry) where
  pub finding_one : overfull N es ≡ true → finding N es ≡ 1
  unfolding finding
  finding_one e = rw e

  pub finding_two : overfull N es ≡ false → oversent N es ≡ true → finding N es ≡ 2
  unfolding finding
  finding_two e f = rw (e, f)

  pub finding_zero : overfull N es ≡ false → oversent N es ≡ false → finding N es ≡ 0
  unfolding finding
  finding_zero e f = rw (e, f)

  -- "under 1 or 2 the figure is 0"
  pub figure_one : finding N es ≡ 1 → figure N es ≡ 0
  unfolding figure
  figure_one e = rw e

  pub figure_two : finding N es ≡ 2 → figure N es ≡ 0
  unfolding figure
  figure_two e = rw e

  pub figure_zero : finding N es ≡ 0 → figure N es ≡ delivered N (suc (last_slot es)) (logged es)
  unfolding figure
  figure_zero e = rw e
