-- `links_of` stores one link in a turn. Assumes nothing.
use mathlib.Core.Path.{◌≡◌}
use Prim.Native.Nat.{ℕ, ◌≤◌, ◌<◌}
use lib.ListN.{length, get_or}
use Rattle.limits.specs.Limits.{most_links}
use Rattle.flows.specs.Network.{no_link}
use Rattle.table_reader.specs.Links.{link_in}
use Rattle.table_reader.proofs.links_of.Given as goal

abbrev pub invariant-loop-e : goal.invariant-loop-e
invariant-loop-e l =
    (l.e ≤ 256) × (length l.links ≡ most_links) × ((k : ℕ) → k < l.e → get_or l.links k no_link ≡ link_in l.numbers k)
