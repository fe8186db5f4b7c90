-- `read` meets its contract: each return is the definition, rewritten by what was read up to there. Assumes nothing.
use mathlib.Core.Path.{◌≡◌, ap, ◌∙◌}
use mathlib.Core.List.{List}
use Prim.Native.Nat.{ℕ, ◌-◌}
use native.Mathlib.Omega.{arith}
use borrow.Author.Tests.{eq-eqb, ne_eqb}
use Rattle.std.specs.Prelude.{Err}
use Rattle.std.proofs.lemmas.Result.{err_from_is_err_and}
use Rattle.refusals.specs.declared.Refusal.{Refusal}
use Rattle.limits.specs.Limits.{fewest_places, most_places, fewest_links, most_links}
use Rattle.numbers.specs.Field.{refused, and_then}
use Rattle.numbers.proofs.Fields.{ReadAt}
use Rattle.numbers.proofs.Parts.{part_refused}
use Rattle.network.specs.Record.{number_refusals, read_network}
use Rattle.network.specs.Held.{read_answer}
use Rattle.link_reader.proofs.Links.{number_read}
use Rattle.network_reader.proofs.read.Goals as goal
use Rattle.network_reader.proofs.read.Goals.{In_ok-places, In_ok-origin, In_ok-destination, In_ok-links}

-- what the code answers where the network is refused
network_refused : (s : List ℕ) (e : Refusal) → read_network s ≡ refused e → Err e ≡ read_answer (read_network s)
unfolding read_answer
network_refused s e h = rw h (λ i. Err e)

-- the numbers read, each where it was accepted
places_read : (c : In_ok-places)
    → let n = c.in_ok-places.places in
    ReadAt number_refusals fewest_places most_places c.args.octets.now 0 n.value n.next
places_read c = number_read _ _ _ 0 _ c.in_ok-places.ensures

origin_read : (c : In_ok-origin)
    → let m = c.in_ok-places.places in
    let n = c.in_ok-origin.origin in
    ReadAt number_refusals 0 (m.value - 1) c.args.octets.now m.next n.value n.next
origin_read c = number_read _ _ _ c.in_ok-places.places.next _ c.in_ok-origin.ensures

destination_read : (c : In_ok-destination)
    → let m = c.in_ok-places.places in
    let n = c.in_ok-destination.destination in
    ReadAt number_refusals 0 (m.value - 1) c.args.octets.now c.in_ok-origin.origin.next n.value n.next
destination_read c = number_read _ _ _ c.in_ok-origin.origin.next _ c.in_ok-destination.ensures

links_read : (c : In_ok-links)
    → let n = c.in_ok-links.links in
    ReadAt number_refusals fewest_links most_links c.args.octets.now c.in_ok-destination.destination.next n.value n.next
links_read c = number_read _ _ _ c.in_ok-destination.destination.next _ c.in_ok-links.ensures

pub returns-in_err-places : goal.returns-in_err-places
unfolding read_network and_then
returns-in_err-places c =
    let p = err_from_is_err_and c.from_residual.result c.from_residual.ensures.1 in
    rw (p.1, p.2) (network_refused _ _ (rw (part_refused (λ n. n) _ _ _ c.in_err-places.ensures)))

pub overflow_sub-places : goal.overflow_sub-places
overflow_sub-places c = omega (arith, (places_read (goal.at.overflow_sub-places c).In_ok-places).low)

pub returns-in_err-origin : goal.returns-in_err-origin
unfolding read_network and_then
returns-in_err-origin c =
    let k = goal.at.returns-in_err-origin c in
    let p = err_from_is_err_and c.from_residual-in_err-origin.result c.from_residual-in_err-origin.ensures.1 in
    rw (p.1, p.2)
    (network_refused _ _ (rw ((places_read k.In_ok-places).accepts, part_refused (λ n. n) _ _ _ c.in_err-origin.ensures)))

pub overflow_sub-places-2 : goal.overflow_sub-places-2
overflow_sub-places-2 c = omega (arith, (places_read (goal.at.overflow_sub-places-2 c).In_ok-places).low)

pub returns-in_err-destination : goal.returns-in_err-destination
unfolding read_network and_then
returns-in_err-destination c =
    let k = goal.at.returns-in_err-destination c in
    let p = err_from_is_err_and c.from_residual-in_err-destination.result c.from_residual-in_err-destination.ensures.1 in
    rw (p.1, p.2)
    (network_refused _ _ (rw (
      (places_read k.In_ok-places).accepts,
      (origin_read k.In_ok-origin).accepts,
      part_refused (λ n. n) _ _ _ c.in_err-destination.ensures,
    )))

pub returns-then-destination-origin : goal.returns-then-destination-origin
unfolding read_network and_then
returns-then-destination-origin c =
    let k = goal.at.returns-then-destination-origin c in
    network_refused _ _ (rw ((places_read k.In_ok-places).accepts, (origin_read k.In_ok-origin).accepts, (destination_read k.In_ok-destination).accepts, eq-eqb _ _ c.if-destination-origin.true))

pub returns-in_err-links : goal.returns-in_err-links
unfolding read_network and_then
returns-in_err-links c =
    let k = goal.at.returns-in_err-links c in
    let p = err_from_is_err_and c.from_residual-in_err-links.result c.from_residual-in_err-links.ensures.1 in
    rw (p.1, p.2)
    (network_refused _ _ (rw (
      (places_read k.In_ok-places).accepts,
      (origin_read k.In_ok-origin).accepts,
      (destination_read k.In_ok-destination).accepts,
      ne_eqb _ _ c.if-destination-origin.false,
      part_refused (λ n. n) _ _ _ c.in_err-links.ensures,
    )))

pub read_rest-requires : goal.read_rest-requires
read_rest-requires c =
    omega (arith, (places_read (goal.at.read_rest-requires c).In_ok-places).low, (links_read c).high, (links_read c).inside)

pub returns : goal.returns
unfolding read_network and_then
returns c =
    let k = goal.at.returns c in
    let differ = c.if-destination-origin.false in
    c.read_rest.ensures
    ∙ ap read_answer (rw (
      (places_read k.In_ok-places).accepts,
      (origin_read k.In_ok-origin).accepts,
      (destination_read k.In_ok-destination).accepts,
      ne_eqb _ _ differ,
      (links_read k.In_ok-links).accepts,
    ))
