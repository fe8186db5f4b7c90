-- `no_rows` meets its contract: every row is the one of all zeros. Assumes nothing.
use mathlib.Core.Path.{ap}
use lib.ListN.{replicate}
use Rattle.limits.specs.Limits.{most_rows}
use Rattle.plans.specs.Held.{held_rows}
use Rattle.plans.proofs.no_rows.Goals as goal

pub returns : goal.returns
unfolding held_rows
returns c = ap (replicate most_rows) c.no_row-row.ensures
