-- `network_of` puts the links and the first four numbers together. Assumes nothing.
use borrow.Author.Rules.{rules}
use Rattle.table_reader.proofs.Links.{links_network}
use Rattle.table_reader.proofs.network_of.Goals as goal

pub returns : goal.returns
returns c = links_network _ _ (search rules) (record { size = search rules; is = c.links_of.ensures })
