-- `without_links` meets its contract: an array without links is links of zeros. Assumes nothing.
use mathlib.Core.Path.{refl}
use Rattle.network.specs.Held.{with_links}
use Rattle.rest_reader.proofs.without_links.Goals as goal

pub returns : goal.returns
unfolding with_links
returns c = refl
