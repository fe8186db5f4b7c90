-- `check_link` meets its contract: each return is the definition, of which the tests up to there are known. Assumes nothing.
use mathlib.Core.Path.{sym, ◌∙◌}
use Prim.Native.Nat.{◌-◌}
use Rattle.std.proofs.lemmas.Result.{err_from_is_err_and}
use Rattle.limits.specs.Limits.{most_capacity}
use Rattle.network_check.specs.Check.{link_refusal}
use Rattle.network_check.proofs.LinkTests.{limit_passed, limit_stopped, equal_stopped, equal_passed}
use Rattle.network_check.proofs.check_link.Goals as goal

pub returns-in_err-limit : goal.returns-in_err-limit
unfolding link_refusal
returns-in_err-limit c =
    let p = err_from_is_err_and c.from_residual.result c.from_residual.ensures.1 in
    rw (p.1, p.2) (sym (limit_stopped 0 (c.args.places - 1) c.args.link.start _ c.in_err-limit.ensures _))

pub returns-in_err-limit-2 : goal.returns-in_err-limit-2
unfolding link_refusal
returns-in_err-limit-2 c =
    let p = err_from_is_err_and c.from_residual-in_err-limit-2.result c.from_residual-in_err-limit-2.ensures.1 in
    rw (p.1, p.2) (sym ((limit_passed 0 (c.args.places - 1) c.args.link.start _ c.in_ok-limit.ensures).1 _ ∙ limit_stopped 0 (c.args.places - 1) c.args.link.end _ c.in_err-limit-2.ensures _))

pub returns-then-link : goal.returns-then-link
unfolding link_refusal
returns-then-link c =
    sym ((limit_passed 0 (c.args.places - 1) c.args.link.start _ c.in_ok-limit.ensures).1 _ ∙ (limit_passed 0 (c.args.places - 1) c.args.link.end _ c.in_ok-limit-2.ensures).1 _ ∙ equal_stopped c.args.link.start c.args.link.end c.if-link.true _ _)

pub returns-in_err-limit-3 : goal.returns-in_err-limit-3
unfolding link_refusal
returns-in_err-limit-3 c =
    let p = err_from_is_err_and c.from_residual-in_err-limit-3.result c.from_residual-in_err-limit-3.ensures.1 in
    rw (p.1, p.2)
    (sym ((limit_passed 0 (c.args.places - 1) c.args.link.start _ c.in_ok-limit.ensures).1 _ ∙ (limit_passed 0 (c.args.places - 1) c.args.link.end _ c.in_ok-limit-2.ensures).1 _
    ∙ equal_passed c.args.link.start c.args.link.end c.if-link.false _ _ ∙ limit_stopped 0 most_capacity c.args.link.capacity _ c.in_err-limit-3.ensures _))

pub returns : goal.returns
unfolding link_refusal
returns c =
    c.limit-4.ensures
    ∙ sym ((limit_passed 0 (c.args.places - 1) c.args.link.start _ c.in_ok-limit.ensures).1 _ ∙ (limit_passed 0 (c.args.places - 1) c.args.link.end _ c.in_ok-limit-2.ensures).1 _
    ∙ equal_passed c.args.link.start c.args.link.end c.if-link.false _ _ ∙ (limit_passed 0 most_capacity c.args.link.capacity _ c.in_ok-limit-3.ensures).1 _)
