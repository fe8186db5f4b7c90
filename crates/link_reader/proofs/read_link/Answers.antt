-- `read_link` meets its contract: each return is the definition, rewritten by what was read up to there. Assumes nothing.
use mathlib.Core.Path.{◌≡◌}
use mathlib.Core.Bool.{true, false}
use Prim.Native.Nat.{◌-◌}
use native.Mathlib.Omega.{arith}
use lib.Dec.{eqb}
use borrow.Author.Tests.{eq-eqb, ne_eqb}
use Rattle.std.proofs.lemmas.Result.{err_from_is_err_and}
use Rattle.limits.specs.Limits.{most_capacity, most_transit}
use Rattle.numbers.specs.Field.{and_then}
use Rattle.numbers.proofs.Fields.{ReadAt}
use Rattle.numbers.proofs.Parts.{part_refused, answer_refused, answer_accepted}
use Rattle.flows.specs.declared.Link.{Link}
use Rattle.network.specs.Record.{number_refusals, read_link}
use Rattle.link_reader.proofs.Links.{number_read}
use Rattle.link_reader.proofs.read_link.Goals as goal
use Rattle.link_reader.proofs.read_link.Goals.{In_ok-start, In_ok-end, In_ok-capacity, In_ok-transit, Then-start-end, Else-start-end}

-- the numbers read, each where it was accepted
start_read : (c : In_ok-start)
    → let a = c.args in
    let n = c.in_ok-start.start in
    ReadAt number_refusals 0 (a.places - 1) a.octets.now a.at n.value n.next
start_read c = number_read _ _ _ c.args.at _ c.in_ok-start.ensures

end_read : (c : In_ok-end)
    → let a = c.args in
    let n = c.in_ok-end.end in
    ReadAt number_refusals 0 (a.places - 1) a.octets.now c.in_ok-start.start.next n.value n.next
end_read c = number_read _ _ _ c.in_ok-start.start.next _ c.in_ok-end.ensures

capacity_read : (c : In_ok-capacity)
    → let n = c.in_ok-capacity.capacity in
    ReadAt number_refusals 0 most_capacity c.args.octets.now c.in_ok-end.end.next n.value n.next
capacity_read c = number_read _ _ _ c.in_ok-end.end.next _ c.in_ok-capacity.ensures

transit_read : (c : In_ok-transit)
    → let n = c.in_ok-transit.transit in
    ReadAt number_refusals 0 most_transit c.args.octets.now c.in_ok-capacity.capacity.next n.value n.next
transit_read c = number_read _ _ _ c.in_ok-capacity.capacity.next _ c.in_ok-transit.ensures

-- whether the link leads to where it starts
same : (c : Then-start-end) → eqb c.in_ok-start.start.value c.in_ok-end.end.value ≡ true
same c = eq-eqb _ _ (omega arith)

apart : (c : Else-start-end) → eqb c.in_ok-start.start.value c.in_ok-end.end.value ≡ false
apart c = ne_eqb _ _ λ e. omega arith

pub returns-in_err-start : goal.returns-in_err-start
unfolding read_link and_then
returns-in_err-start c =
    let p = err_from_is_err_and c.from_residual.result c.from_residual.ensures.1 in
    rw (p.1, p.2) (answer_refused (λ (l : Link). l) _ _ _ (rw (part_refused (λ n. n) _ _ _ c.in_err-start.ensures)))

pub returns-in_err-end : goal.returns-in_err-end
unfolding read_link and_then
returns-in_err-end c =
    let k = goal.at.returns-in_err-end c in
    let p = err_from_is_err_and c.from_residual-in_err-end.result c.from_residual-in_err-end.ensures.1 in
    rw (p.1, p.2) (answer_refused (λ (l : Link). l) _ _ _ (rw ((start_read k.In_ok-start).accepts, part_refused (λ n. n) _ _ _ c.in_err-end.ensures)))

pub returns-then-start-end : goal.returns-then-start-end
unfolding read_link and_then
returns-then-start-end c =
    let k = goal.at.returns-then-start-end c in
    answer_refused (λ (l : Link). l) _ _ _
    (rw ((start_read k.In_ok-start).accepts, (end_read k.In_ok-end).accepts, same k.Then-start-end))

pub returns-in_err-capacity : goal.returns-in_err-capacity
unfolding read_link and_then
returns-in_err-capacity c =
    let k = goal.at.returns-in_err-capacity c in
    let p = err_from_is_err_and c.from_residual-in_err-capacity.result c.from_residual-in_err-capacity.ensures.1 in
    rw (p.1, p.2)
    (answer_refused (λ (l : Link). l) _ _ _ (rw (
      (start_read k.In_ok-start).accepts,
      (end_read k.In_ok-end).accepts,
      apart k.Else-start-end,
      part_refused (λ n. n) _ _ _ c.in_err-capacity.ensures,
    )))

pub returns-in_err-transit : goal.returns-in_err-transit
unfolding read_link and_then
returns-in_err-transit c =
    let k = goal.at.returns-in_err-transit c in
    let p = err_from_is_err_and c.from_residual-in_err-transit.result c.from_residual-in_err-transit.ensures.1 in
    rw (p.1, p.2)
    (answer_refused (λ (l : Link). l) _ _ _ (rw (
      (start_read k.In_ok-start).accepts,
      (end_read k.In_ok-end).accepts,
      apart k.Else-start-end,
      (capacity_read k.In_ok-capacity).accepts,
      part_refused (λ n. n) _ _ _ c.in_err-transit.ensures,
    )))

pub returns : goal.returns
unfolding read_link and_then
returns c =
    let k = goal.at.returns c in
    answer_accepted (λ (l : Link). l) c.args.octets.now _
    (record {
      start = c.in_ok-start.start.value;
      end = c.in_ok-end.end.value;
      capacity = c.in_ok-capacity.capacity.value;
      transit = c.in_ok-transit.transit.value;
    })
    c.in_ok-transit.transit.next
    (rw (
      (start_read k.In_ok-start).accepts,
      (end_read k.In_ok-end).accepts,
      apart k.Else-start-end,
      (capacity_read k.In_ok-capacity).accepts,
      (transit_read c).accepts,
    ))
    (transit_read c).inside
