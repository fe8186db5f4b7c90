-- `number` meets its contract: it hands over the refusals that the definition has. Assumes nothing.
use Rattle.link_reader.proofs.number.Goals as goal

pub returns : goal.returns
returns c = c.read_field.ensures
