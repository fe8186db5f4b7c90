-- `overfull` meets its contract: no entry passed has brought its link above its capacity. Assumes nothing.
use Rattle.std.proofs.Common.{◌≡◌, ◌+◌, ◌*◌, ◌<◌, ◌≤◌, ℕ, List, length, get_or, set, cond, eqb, replicate, sym, refl, arith, get_or-set_same}
use Rattle.limits.specs.Limits.{most_links, most_log_entries, most_log_blocks}
use Rattle.flows.specs.Network.{WellFormed}
use Rattle.network.specs.declared.Network.{Network}
use Rattle.network.specs.Held.{link_at, model_of}
use Rattle.logs.specs.declared.Entry.{Entry}
use Rattle.logs.specs.Columns.{nth, link_of, slot_of, blocks_of, Given}
use Rattle.logs.proofs.Columns.{linked}
use Rattle.log_loads.proofs.Takings.{up_to, Taking, taking_none, fresh_size, sum_is, sum_small, taking_more, found, none}
use Rattle.log_loads.proofs.overfull.Goals as goal

-- one entry further
module _ (net : Network) (es : List Entry) (formed : WellFormed (model_of net)) (given : Given net.count es) (i : ℕ) (more : i < length es)
    (taken : List ℕ) (slot : ℕ) (t : Taking net es taken slot i) (fresh : List ℕ)
    (e : fresh ≡ cond (eqb slot (slot_of es i)) taken (replicate most_links 0)) where
  -- what the entry's link has taken with it
  abbrev with_it : ℕ
  with_it = nth fresh (link_of es i) + blocks_of es i

  step_small : with_it ≤ most_log_blocks * most_log_entries
  step_small = sum_small net es formed given taken slot i t more fresh e

  step_is : with_it ≡ up_to es i
  step_is = sum_is net es formed given taken slot i t more fresh e

  step_set : get_or (set fresh (link_of es i) with_it) (link_of es i) 0 ≡ with_it
  step_set =
      get_or-set_same fresh (link_of es i) with_it 0
      (omega (arith, linked net es formed given i more, fresh_size net es formed given taken slot i t more fresh e))

  step_more : with_it ≤ (link_at net (link_of es i)).capacity
      → Taking net es (set fresh (link_of es i) with_it) (slot_of es i) (i + 1)
  step_more = taking_more net es formed given taken slot i t more fresh e

pub loop-entry-init : goal.loop-entry-init
loop-entry-init c = taking_none _ _ c.args.log.formed c.args.log.given _ refl

pub bounds-taken-link : goal.bounds-taken-link
bounds-taken-link c = linked _ _ c.args.log.formed c.args.log.given _ c.loop-entry-test.true

pub bounds-taken-link-in-loop-entry : goal.bounds-taken-link-in-loop-entry
bounds-taken-link-in-loop-entry c = linked _ _ c.args.log.formed c.args.log.given _ c.loop-entry-test.true

pub bounds-network-link : goal.bounds-network-link
bounds-network-link c = linked _ _ c.args.log.formed c.args.log.given _ c.loop-entry-test.true

pub bounds-taken-link-in-loop-entry-2 : goal.bounds-taken-link-in-loop-entry-2
bounds-taken-link-in-loop-entry-2 c = linked _ _ c.args.log.formed c.args.log.given _ c.loop-entry-test.true

pub overflow_add-taken : goal.overflow_add-taken
overflow_add-taken c =
    omega (arith, step_small _ _ c.args.log.formed c.args.log.given _ c.loop-entry-test.true _ _ c.loop-entry.invariant _ c.take_up.ensures)

pub returns-then-network-link : goal.returns-then-network-link
returns-then-network-link c =
    let set = step_set _ _ c.args.log.formed c.args.log.given _ c.loop-entry-test.true _ _ c.loop-entry.invariant _ c.take_up.ensures in
    let is = step_is _ _ c.args.log.formed c.args.log.given _ c.loop-entry-test.true _ _ c.loop-entry.invariant _ c.take_up.ensures in
    sym (found _ _ c.args.log.given c.loop-entry.entry-index c.loop-entry-test.true
    (omega (arith, c.if-network-link.true, set, is)))

pub loop-entry-preserved : goal.loop-entry-preserved
loop-entry-preserved c =
    let set = step_set _ _ c.args.log.formed c.args.log.given _ c.loop-entry-test.true _ _ c.loop-entry.invariant _ c.take_up.ensures in
    step_more _ _ c.args.log.formed c.args.log.given _ c.loop-entry-test.true _ _ c.loop-entry.invariant _ c.take_up.ensures
    (omega (arith, c.if-network-link.false, set))

pub returns : goal.returns
returns c = sym (none _ _ c.args.log.given (λ i p. c.loop-entry.invariant.fit i (omega arith)))
