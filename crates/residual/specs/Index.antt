-- The links at each place, as chains: those that start there, and those that end there.
use Rattle.std.specs.Prelude.{◌≡◌, List, map, ℕ, length}
use Rattle.limits.specs.Limits.{most_places}
use Rattle.flows.specs.declared.Link.{Link}
use Rattle.flows.specs.Network.{Network}
use Rattle.buckets.specs.Buckets.{Bucketed}
use Rattle.residual.specs.declared.Index.{Index}

-- the ends of links on one side, in link order
abbrev pub ends : (Link → ℕ) → Network → List ℕ
ends end N = map end N.links

-- the chains are the buckets of the links by start, and by end: capacities and transits do not matter
pub record Indexed (N : Network) (index : Index) : Type 0 where
  pub out_places : length index.out.first ≡ most_places
  pub in_places : length index.into.first ≡ most_places
  pub out : Bucketed (ends (λ l. l.start) N) index.out.first index.out.next
  pub into : Bucketed (ends (λ l. l.end) N) index.into.first index.into.next
