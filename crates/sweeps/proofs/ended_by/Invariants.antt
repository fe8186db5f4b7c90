-- `sweeps::ended_by` meets its contract. The loop's invariant: the uses passed have ended. Assumes nothing.
use lib.ListN.{length}
use Rattle.sort_keys.specs.Keys.{key_in}
use Rattle.sweeps.specs.Sweeps.{Ending}
use Rattle.sweeps.proofs.ended_by.Given as goal

abbrev pub invariant-loop-passed : goal.invariant-loop-passed
invariant-loop-passed l =
    Ending (key_in l.stops.terms.now l.stops.lags.now) l.rates l.ends (length l.ends) l.slot (record { passed = l.passed; rates = l.sum })
