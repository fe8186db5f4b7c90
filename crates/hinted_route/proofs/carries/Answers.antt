-- `hinted_route::carries` meets its contract: while it goes on, the links from the i-th on are met, and where it stands at the origin these
-- are all. Assumes nothing.
use mathlib.Core.Bool.{false≢true}
use native.Mathlib.Omega.{arith}
use borrow.Author.Rules.{rules}
use borrow.Author.Tests.{eqb-true}
use Rattle.std.proofs.Common.{◌≡◌}
use Rattle.hinted_route.proofs.Backward.{looking_begins, looking_next, looking_ends}
use Rattle.hinted_route.proofs.carries.Goals as goal

pub returns-then-count-gt-MOST_ROW_LINKS : goal.returns-then-count-gt-MOST_ROW_LINKS
returns-then-count-gt-MOST_ROW_LINKS c = λ h. absurd (false≢true h)

pub returns-then-destination-ge-MOST_PLACES : goal.returns-then-destination-ge-MOST_PLACES
returns-then-destination-ge-MOST_PLACES c = λ h. absurd (false≢true h)

pub loop-i-init : goal.loop-i-init
loop-i-init c = looking_begins _ _ _ _ (omega arith)

pub returns-then-network-e : goal.returns-then-network-e
returns-then-network-e c = λ h. absurd (false≢true h)

pub returns-then-link-place : goal.returns-then-link-place
returns-then-link-place c = λ h. absurd (false≢true h)

pub returns-then-left-e-eq0 : goal.returns-then-left-e-eq0
returns-then-left-e-eq0 c = λ h. absurd (false≢true h)

pub returns-then-from-ge-MOST_PLACES : goal.returns-then-from-ge-MOST_PLACES
returns-then-from-ge-MOST_PLACES c = λ h. absurd (false≢true h)

pub returns-then-seen-at : goal.returns-then-seen-at
returns-then-seen-at c = λ h. absurd (false≢true h)

pub loop-i-preserved : goal.loop-i-preserved
loop-i-preserved c =
    let some = c.if-left-e-eq0.false in
    looking_next _ _ _ _ _ _ _ c.loop-i.invariant (search rules) (omega arith) (omega arith) _
    c.from-e.ensures (omega arith) (omega arith) some (omega arith) c.if-seen-at.false

pub returns : goal.returns
returns c = λ h.
    let home : c.loop-i.place ≡ c.args.network.now.origin = eqb-true c.loop-i.place c.args.network.now.origin h in
    (omega arith, looking_ends _ _ _ _ _ _ _ c.loop-i.invariant (search rules) (omega arith) (omega arith) home)
