-- `read_row` meets its contract: each return is one of the ways to read a row's links, and the tail follows them. Assumes nothing.
use mathlib.Core.Path.{ap, ◌∙◌}
use Rattle.std.proofs.lemmas.Result.{err_from_is_err_and}
use Rattle.plan_parts.specs.Cursor.{row_answer}
use Rattle.row_reader.proofs.ReadRow.{stops₁, count_read, count_high, stops₂, links_kept, tail_follows}
use Rattle.row_reader.proofs.read_row.Goals as goal

pub returns-in_err-count : goal.returns-in_err-count
returns-in_err-count c =
    let p = err_from_is_err_and c.from_residual.result c.from_residual.ensures.1 in
    rw (p.1, p.2) (stops₁ c.args.s.now c.args.start c.args.links _ c.in_err-count.ensures)

pub read_chain-requires : goal.read_chain-requires
read_chain-requires c =
    let counted = c.in_ok-count.ensures in (
      (count_read c.args.s.now c.args.start c.args.links _ counted).inside,
      count_high c.args.s.now c.args.start c.args.links _ counted,
      c.requires.1,
      c.requires.2,
    )

pub returns-in_err-chain : goal.returns-in_err-chain
returns-in_err-chain c =
    let p = err_from_is_err_and c.from_residual-in_err-chain.result c.from_residual-in_err-chain.ensures.1 in
    rw (p.1, p.2) (stops₂ c.args.s.now c.args.start c.args.links _ c.in_ok-count.ensures _ c.in_err-chain.ensures)

pub read_tail-requires : goal.read_tail-requires
read_tail-requires c = links_kept c.args.s.now c.args.start c.args.links _ c.in_ok-count.ensures _ c.in_ok-chain.ensures

pub returns : goal.returns
returns c =
    c.read_tail.ensures
    ∙ ap (row_answer _) (tail_follows c.args.s.now c.args.start c.args.links _ c.in_ok-count.ensures _ c.in_ok-chain.ensures)
