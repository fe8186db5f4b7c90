-- `Simplex::best_of` is safe: what it looks at is an arc. Assumes nothing.
use Rattle.std.proofs.Common.{◌<◌}
use Rattle.simplex.proofs.Simplex.best_of.Given as goal

abbrev pub invariant-loop : goal.invariant-loop
invariant-loop l = l.a < 257
