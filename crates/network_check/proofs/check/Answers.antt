-- `check` meets its contract: each return is the definition, of which the tests up to there are known. Assumes nothing.
use mathlib.Core.Path.{sym, ap, ◌∙◌}
use Prim.Native.Nat.{◌-◌}
use Rattle.std.proofs.lemmas.Result.{err_from_is_err_and}
use Rattle.limits.specs.Limits.{fewest_places, most_places, fewest_links, most_links}
use Rattle.network_check.specs.Check.{links_refusal}
use Rattle.network_check.proofs.LinkTests.{limit_passed, limit_stopped, equal_stopped, equal_passed}
use Rattle.network_check.proofs.Checking.{struct_refusal}
use Rattle.network_check.proofs.check.Goals as goal

pub returns-in_err-limit : goal.returns-in_err-limit
returns-in_err-limit c =
    let p = err_from_is_err_and c.from_residual.result c.from_residual.ensures.1 in
    let net = c.args.network.now in
    rw (p.1, p.2) (sym (struct_refusal net ∙ limit_stopped fewest_places most_places net.places _ c.in_err-limit.ensures _))

pub returns-in_err-limit-2 : goal.returns-in_err-limit-2
returns-in_err-limit-2 c =
    let p = err_from_is_err_and c.from_residual-in_err-limit-2.result c.from_residual-in_err-limit-2.ensures.1 in
    let net = c.args.network.now in
    rw (p.1, p.2)
    (sym (struct_refusal net ∙ (limit_passed fewest_places most_places net.places _ c.in_ok-limit.ensures).1 _ ∙ limit_stopped 0 (net.places - 1) net.origin _ c.in_err-limit-2.ensures _))

pub returns-in_err-limit-3 : goal.returns-in_err-limit-3
returns-in_err-limit-3 c =
    let p = err_from_is_err_and c.from_residual-in_err-limit-3.result c.from_residual-in_err-limit-3.ensures.1 in
    let net = c.args.network.now in
    rw (p.1, p.2)
    (sym (struct_refusal net ∙ (limit_passed fewest_places most_places net.places _ c.in_ok-limit.ensures).1 _ ∙ (limit_passed 0 (net.places - 1) net.origin _ c.in_ok-limit-2.ensures).1 _
    ∙ limit_stopped 0 (net.places - 1) net.destination _ c.in_err-limit-3.ensures _))

pub returns-then-network : goal.returns-then-network
returns-then-network c =
    let net = c.args.network.now in
    sym (struct_refusal net ∙ (limit_passed fewest_places most_places net.places _ c.in_ok-limit.ensures).1 _ ∙ (limit_passed 0 (net.places - 1) net.origin _ c.in_ok-limit-2.ensures).1 _
    ∙ (limit_passed 0 (net.places - 1) net.destination _ c.in_ok-limit-3.ensures).1 _ ∙ equal_stopped net.destination net.origin c.if-network.true _ _)

pub returns-in_err-limit-4 : goal.returns-in_err-limit-4
returns-in_err-limit-4 c =
    let p = err_from_is_err_and c.from_residual-in_err-limit-4.result c.from_residual-in_err-limit-4.ensures.1 in
    let net = c.args.network.now in
    rw (p.1, p.2)
    (sym (struct_refusal net ∙ (limit_passed fewest_places most_places net.places _ c.in_ok-limit.ensures).1 _ ∙ (limit_passed 0 (net.places - 1) net.origin _ c.in_ok-limit-2.ensures).1 _
    ∙ (limit_passed 0 (net.places - 1) net.destination _ c.in_ok-limit-3.ensures).1 _ ∙ equal_passed net.destination net.origin c.if-network.false _ _
    ∙ limit_stopped fewest_links most_links net.count _ c.in_err-limit-4.ensures _))

pub links-requires : goal.links-requires
links-requires c = (limit_passed fewest_links most_links c.args.network.now.count _ c.in_ok-limit-4.ensures).0.1

pub returns : goal.returns
returns c =
    let net = c.args.network.now in
    c.check_links.ensures
    ∙ ap (links_refusal net.places) c.links.ensures
    ∙ sym (struct_refusal net ∙ (limit_passed fewest_places most_places net.places _ c.in_ok-limit.ensures).1 _ ∙ (limit_passed 0 (net.places - 1) net.origin _ c.in_ok-limit-2.ensures).1 _
    ∙ (limit_passed 0 (net.places - 1) net.destination _ c.in_ok-limit-3.ensures).1 _ ∙ equal_passed net.destination net.origin c.if-network.false _ _
    ∙ (limit_passed fewest_links most_links net.count _ c.in_ok-limit-4.ensures).1 _)
