-- `Network::links` lends the head of the array. Assumes nothing.
use mathlib.Core.Path.{sym}
use native.Mathlib.Omega.{arith}
use Rattle.network.proofs.Model.{links_taken}
use Rattle.network.proofs.Network.links.Goals as goal

-- src/lib.rt
pub returns : goal.returns
returns c = sym (links_taken c.args.self.now c.args.self.now.count (omega (arith, c.requires)))
