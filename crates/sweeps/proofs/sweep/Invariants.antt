-- `sweeps::sweep` meets its contract. The loop's invariant: what has begun and what has ended by the starts passed, none of which was over.
-- Assumes nothing.
use lib.ListN.{length}
use Rattle.sweeps.proofs.InOrder.{Sweeping}
use Rattle.sweeps.proofs.sweep.Given as goal

abbrev pub invariant-loop-number : goal.invariant-loop-number
invariant-loop-number l =
    Sweeping l.capacity (length l.starts) l.starts l.ends l.begins.lags.now l.begins.terms.now l.stops.terms.now l.rates l.begun l.ended l.number-index
