-- `chain_links` puts the links' places into buckets. Assumes nothing.
use native.Mathlib.Omega.{arith}
use Rattle.adjacency.proofs.Parts.{keys_few, key_in}
use Rattle.adjacency.proofs.chain_links.Goals as goal

pub distribute-requires : goal.distribute-requires
distribute-requires c =
    let few = keys_few c.args.direction c.args.links.now _ c.tails.ensures c.requires in
    record {
      headed = λ k h. omega (arith, key_in c.args.direction c.args.links.now _ c.tails.ensures c.requires k h);
      room = omega (arith, few);
      few = omega (arith, few);
    }
