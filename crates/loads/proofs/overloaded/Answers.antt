-- `loads::overloaded` meets its contract. The loop's invariant: no link passed has a use that is over. That some use is over is that some slot
-- is. Assumes nothing.
use mathlib.Core.Path.{◌≡◌, sym, ◌∙◌}
use Prim.Native.Nat.{◌<◌}
use native.Mathlib.Omega.{arith}
use lib.ListN.{get_or}
use Rattle.flows.specs.Network.{no_link}
use Rattle.network.specs.Held.{link_at}
use Rattle.row_uses.specs.Uses.{over_on}
use Rattle.row_uses.proofs.Entries.{none_more, some_link, no_link_lem, any_over_lem}
use Rattle.network.proofs.Model.{lent_count, lent_link}
use Rattle.loads.proofs.overloaded.Goals as goal
use Rattle.loads.proofs.overloaded.Goals.{In-loop-e}

-- the link at hand is one of the network's
below : (c : In-loop-e) → c.loop-e.e < c.args.network.now.count
below c = omega (arith, lent_count c.args.network.now _ c.links-link-items.ensures, c.loop-e-test.true)

here : (c : In-loop-e) → get_or c.links-link-items.result.now c.loop-e.e no_link ≡ link_at c.args.network.now c.loop-e.e
here c = lent_link c.args.network.now _ c.links-link-items.ensures c.loop-e.e (below c)

pub bounds-filed-e : goal.bounds-filed-e
bounds-filed-e c = omega (arith, below (goal.at.bounds-filed-e c).In-loop-e, c.requires)

pub returns-then-link_over : goal.returns-then-link_over
returns-then-link_over c =
    let net = c.args.network.now in
    let at = (goal.at.returns-then-link_over c).In-loop-e in
    λ n rs filed.
    some_link _ net.links c.args.filed.head.now net.count c.loop-e.e (below at)
    (rw (here at, c.from-start.ensures) at (sym c.link_over.ensures ∙ c.if-link_over.true))
    ∙ any_over_lem net rs _ c.args.filed.head.now n filed c.requires

pub loop-e-preserved : goal.loop-e-preserved
loop-e-preserved c =
    let at = (goal.at.loop-e-preserved c).In-loop-e in
    none_more (λ d. over_on _ (get_or c.args.network.now.links d no_link).capacity (get_or c.args.filed.head.now d 0)) c.loop-e.e c.loop-e.invariant
    (rw (here at, c.from-start.ensures) at (sym c.link_over.ensures ∙ c.if-link_over.false))

pub returns : goal.returns
returns c =
    let net = c.args.network.now in
    let count = lent_count net _ c.links-link-items.ensures in
    λ n rs filed.
    no_link_lem _ net.links c.args.filed.head.now net.count (λ d h. c.loop-e.invariant d (omega (arith, count, c.loop-e-test.false)))
    ∙ any_over_lem net rs _ c.args.filed.head.now n filed c.requires
