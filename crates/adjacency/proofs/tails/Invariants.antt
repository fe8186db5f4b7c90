-- The links passed have their places.
use Rattle.std.proofs.Common.{◌≡◌, length, take, map}
use Rattle.residual.specs.Relax.{tail_of}
use Rattle.adjacency.proofs.tails.Given as goal

abbrev pub invariant-loop-e : goal.invariant-loop-e
invariant-loop-e l = (length l.places ≡ 256) × (take l.e l.places ≡ map (tail_of l.direction) (take l.e l.links))
