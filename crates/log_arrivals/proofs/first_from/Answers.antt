-- `first_from` meets its contract: the slots never fall, so those before the slot are the first ones. Assumes nothing.
use Rattle.std.proofs.Common.{ltb, ltb-true, ltb-false, arith, rules}
use Rattle.std.proofs.lemmas.List.Sorted.{IsPartitionPoint-from_clause, IsPartitionedBy-ltb, IsNonDecreasingBy-from_default}
use Rattle.logs.specs.Log.{no_entry}
use Rattle.log_arrivals.proofs.first_from.Goals as goal

pub returns : goal.returns
returns c =
    let rise = IsNonDecreasingBy-from_default (λ e. e.slot) c.args.entries.now no_entry c.requires in
    let parted = IsPartitionedBy-ltb (λ e. e.slot) _ c.args.slot rise in
    let point = IsPartitionPoint-from_clause (λ e. ltb e.slot c.args.slot) _ _ c.partition_point.ensures.partitioned parted (λ a r q k. search rules) in
    record {
      within = c.partition_point.ensures.bound;
      below = λ i h. ltb-true _ _ (point.0 i no_entry (omega arith) h);
      above = λ i h k. ltb-false _ _ (point.1 i no_entry h k);
    }
