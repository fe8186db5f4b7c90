-- The least of what was passed and of the links still to come is the least of all.
use Rattle.std.proofs.Common.{◌≡◌, drop}
use Rattle.turns.specs.Turn.{least_on}
use Rattle.turns.proofs.least.Given as goal

abbrev pub invariant-loop-link : goal.invariant-loop-link
invariant-loop-link l = least_on l.flow l.fn.most l.links ≡ least_on l.flow l.rate (drop l.link-index l.links)
