-- `read_copy` meets its contract: each return is one of the ways to read a copy. Assumes nothing.
use native.Mathlib.Omega.{arith}
use lib.ListN.{drop}
use Rattle.std.proofs.lemmas.Result.{err_from_is_err_and}
use Rattle.copy_reader.proofs.Copy.{copy_misspelled, copy_inside, copy_cut, copy_other, copy_read, compares}
use Rattle.copy_reader.proofs.read_copy.Goals as goal

pub returns-in_err-n : goal.returns-in_err-n
returns-in_err-n c =
    let p = err_from_is_err_and c.from_residual.result c.from_residual.ensures.1 in
    rw (p.1, p.2) (copy_misspelled c.args.s.now c.args.start c.args.network.now _ c.in_err-n.ensures)

pub overflow_sub-s : goal.overflow_sub-s
overflow_sub-s c = copy_inside c.args.s.now c.args.start c.args.network.now c.in_ok-n.n c.in_ok-n.ensures

pub returns-then-s-n : goal.returns-then-s-n
returns-then-s-n c = copy_cut c.args.s.now c.args.start c.args.network.now c.in_ok-n.n c.in_ok-n.ensures c.if-s-n.true

pub slice_bounds-ne-end : goal.slice_bounds-ne-end
slice_bounds-ne-end c = omega (arith, copy_inside c.args.s.now c.args.start c.args.network.now c.in_ok-n.n c.in_ok-n.ensures)

pub returns-then-ne : goal.returns-then-ne
returns-then-ne c =
    let differ = (compares (drop c.in_ok-n.n.next c.args.s.now) c.args.network.now _ c.in_ok-n.n.value _ (omega arith) c.ne.ensures).0 c.if-ne.true in
    copy_other c.args.s.now c.args.start c.args.network.now c.in_ok-n.n c.in_ok-n.ensures c.if-s-n.false differ

pub returns : goal.returns
returns c =
    let same = (compares (drop c.in_ok-n.n.next c.args.s.now) c.args.network.now _ c.in_ok-n.n.value _ (omega arith) c.ne.ensures).1 c.if-ne.false in
    copy_read c.args.s.now c.args.start c.args.network.now c.in_ok-n.n c.in_ok-n.ensures c.if-s-n.false same
