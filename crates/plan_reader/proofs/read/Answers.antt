-- `read` meets its contract: each return is one of the ways to read a plan. Assumes nothing.
use Rattle.std.proofs.Common.{◌≡◌, replicate, [], ap}
use Rattle.std.proofs.lemmas.Result.{err_from_is_err_and}
use Rattle.plans.specs.Held.{no_row, held_rows}
use Rattle.plans.specs.declared.Row.{Row}
use Rattle.plan_reader.proofs.ReadPlan.{stops₀, stops₁, stops₂, stops₃, stops₄, stops₅, remains, cut_inside, rows_inside, count_high, reads_plan}
use Rattle.plan_reader.proofs.read.Goals as goal

none_held : (none : Row) → none ≡ no_row → replicate 257 none ≡ held_rows []
unfolding held_rows
none_held none e = ap (replicate 257) e

pub returns-in_err-next_copy : goal.returns-in_err-next_copy
returns-in_err-next_copy c =
    let p = err_from_is_err_and c.from_residual.result c.from_residual.ensures.1 in
    rw (p.1, p.2)
    (stops₀ c.args.network.now c.args.plan c.args.places c.args.links _ c.new-reader.ensures
    _ c.in_err-next_copy.ensures.told)

pub returns-in_err-amount : goal.returns-in_err-amount
returns-in_err-amount c =
    let p = err_from_is_err_and c.from_residual-in_err-amount.result c.from_residual-in_err-amount.ensures.1 in
    rw (p.1, p.2)
    (stops₁ c.args.network.now c.args.plan c.args.places c.args.links _ c.new-reader.ensures
    _ _ c.in_ok-next_copy.ensures.told c.next_copy.ensures.octets
    _ c.in_err-amount.ensures.told)

pub returns-in_err-horizon : goal.returns-in_err-horizon
returns-in_err-horizon c =
    let p = err_from_is_err_and c.from_residual-in_err-horizon.result c.from_residual-in_err-horizon.ensures.1 in
    rw (p.1, p.2)
    (stops₂ c.args.network.now c.args.plan c.args.places c.args.links _ c.new-reader.ensures
    _ _ c.in_ok-next_copy.ensures.told c.next_copy.ensures.octets
    _ _ c.in_ok-amount.ensures.told c.next_number.ensures.octets
    _ c.in_err-horizon.ensures.told)

pub next_cut-requires : goal.next_cut-requires
next_cut-requires c = (
  cut_inside c.args.network.now c.args.plan c.args.places c.args.links _ c.new-reader.ensures
      _ _ c.in_ok-next_copy.ensures.told c.next_copy.ensures.octets
      _ _ c.in_ok-amount.ensures.told c.next_number.ensures.octets
      _ _ c.in_ok-horizon.ensures.told c.next_number-2.ensures.octets,
  c.requires.0,
)

pub returns-in_err-cut : goal.returns-in_err-cut
returns-in_err-cut c =
    let p = err_from_is_err_and c.from_residual-in_err-cut.result c.from_residual-in_err-cut.ensures.1 in
    rw (p.1, p.2)
    (stops₃ c.args.network.now c.args.plan c.args.places c.args.links _ c.new-reader.ensures
    _ _ c.in_ok-next_copy.ensures.told c.next_copy.ensures.octets
    _ _ c.in_ok-amount.ensures.told c.next_number.ensures.octets
    _ _ c.in_ok-horizon.ensures.told c.next_number-2.ensures.octets
    _ c.in_err-cut.ensures.told)

pub returns-in_err-count : goal.returns-in_err-count
returns-in_err-count c =
    let p = err_from_is_err_and c.from_residual-in_err-count.result c.from_residual-in_err-count.ensures.1 in
    rw (p.1, p.2)
    (stops₄ c.args.network.now c.args.plan c.args.places c.args.links _ c.new-reader.ensures
    _ _ c.in_ok-next_copy.ensures.told c.next_copy.ensures.octets
    _ _ c.in_ok-amount.ensures.told c.next_number.ensures.octets
    _ _ c.in_ok-horizon.ensures.told c.next_number-2.ensures.octets
    _ _ c.in_ok-cut.ensures.told c.next_cut.ensures.octets
    _ c.in_err-count.ensures.told)

pub next_rows-requires : goal.next_rows-requires
next_rows-requires c = (
  rows_inside c.args.network.now c.args.plan c.args.places c.args.links _ c.new-reader.ensures
      _ _ c.in_ok-next_copy.ensures.told c.next_copy.ensures.octets
      _ _ c.in_ok-amount.ensures.told c.next_number.ensures.octets
      _ _ c.in_ok-horizon.ensures.told c.next_number-2.ensures.octets
      _ _ c.in_ok-cut.ensures.told c.next_cut.ensures.octets
      _ _ c.in_ok-count.ensures.told c.next_number-3.ensures.octets,
  count_high c.args.network.now c.args.plan c.args.places c.args.links _ c.new-reader.ensures
      _ _ c.in_ok-next_copy.ensures.told c.next_copy.ensures.octets
      _ _ c.in_ok-amount.ensures.told c.next_number.ensures.octets
      _ _ c.in_ok-horizon.ensures.told c.next_number-2.ensures.octets
      _ _ c.in_ok-cut.ensures.told c.next_cut.ensures.octets
      _ _ c.in_ok-count.ensures.told c.next_number-3.ensures.octets,
  c.requires.1,
  c.requires.2,
  none_held _ c.no_row-none.ensures,
)

pub returns-in_err-next_rows : goal.returns-in_err-next_rows
returns-in_err-next_rows c =
    let p = err_from_is_err_and c.from_residual-in_err-next_rows.result c.from_residual-in_err-next_rows.ensures.1 in
    rw (p.1, p.2)
    (stops₅ c.args.network.now c.args.plan c.args.places c.args.links _ c.new-reader.ensures
    _ _ c.in_ok-next_copy.ensures.told c.next_copy.ensures.octets
    _ _ c.in_ok-amount.ensures.told c.next_number.ensures.octets
    _ _ c.in_ok-horizon.ensures.told c.next_number-2.ensures.octets
    _ _ c.in_ok-cut.ensures.told c.next_cut.ensures.octets
    _ _ c.in_ok-count.ensures.told c.next_number-3.ensures.octets
    _ c.in_err-next_rows.ensures.told)

pub returns-then-left-gt0 : goal.returns-then-left-gt0
returns-then-left-gt0 c =
    remains c.args.network.now c.args.plan c.args.places c.args.links _ c.new-reader.ensures
    _ _ c.in_ok-next_copy.ensures.told c.next_copy.ensures.octets
    _ _ c.in_ok-amount.ensures.told c.next_number.ensures.octets
    _ _ c.in_ok-horizon.ensures.told c.next_number-2.ensures.octets
    _ _ c.in_ok-cut.ensures.told c.next_cut.ensures.octets
    _ _ c.in_ok-count.ensures.told c.next_number-3.ensures.octets
    _ _ c.in_ok-next_rows.ensures.told c.next_rows.ensures.octets
    _ c.left.ensures c.if-left-gt0.true

pub returns : goal.returns
returns c =
    reads_plan c.args.network.now c.args.plan c.args.places c.args.links _ c.new-reader.ensures
    _ _ c.in_ok-next_copy.ensures.told c.next_copy.ensures.octets
    _ _ c.in_ok-amount.ensures.told c.next_number.ensures.octets
    _ _ c.in_ok-horizon.ensures.told c.next_number-2.ensures.octets
    _ _ c.in_ok-cut.ensures.told c.next_cut.ensures.octets
    _ _ c.in_ok-count.ensures.told c.next_number-3.ensures.octets
    _ _ c.in_ok-next_rows.ensures.told c.next_rows.ensures.octets
    _ c.left.ensures c.if-left-gt0.false
