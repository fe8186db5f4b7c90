-- "A plan record to at most 37,789" octets, and here is one that has as many: the longest network record, carried by the plan with every
-- number at its limit. Both are read back. Assumes nothing.
use mathlib.Core.Path.{◌≡◌, refl, ap}
use mathlib.Core.List.{List, [], ◌∷◌, ◌++◌}
use Prim.Native.Nat.{ℕ, zero, suc, ◌-◌, ◌*◌, ◌≤◌, ◌<◌}
use native.Mathlib.Omega.{arith}
use lib.ListN.{length, replicate, length-append}
use Rattle.limits.specs.Limits.{most_places, most_links, most_capacity, most_transit, most_network_octets}
use Rattle.numbers.specs.Leb128.{groups, shortest, encode}
use Rattle.numbers.specs.Field.{accepted}
use Rattle.numbers.specs.Writing.{width}
use Rattle.numbers.proofs.Widths.{widths_none, widths_cons}
use Rattle.flows.specs.declared.Link.{Link}
use Rattle.flows.specs.Network.{Network, no_link, link, WellFormed}
use Rattle.network.specs.Record.{link_numbers, read_network, record_of}
use Rattle.network_writer.specs.Longest.{longest_link, longest_network_record}
use Rattle.network_writer.proofs.RoundTrip.{record_is_read, longest_network_record_lem}
use Rattle.plans.specs.Carried.{read_carrying, carrying}
use Rattle.plans.specs.Record as plans
use Rattle.plans.proofs.Carried.{written_carrying}
use Rattle.plans.proofs.Size.{longest_plan_record_lem}
use Rattle.plans.proofs.Largest.{same_element, largest_plan, largest_in_limits, largest_longest}

abbrev largest_link : Link
largest_link = record { start = most_places - 2; end = most_places - 1; capacity = most_capacity; transit = most_transit }

abbrev pub largest_network : Network
largest_network = record { places = most_places; origin = most_places - 2; destination = most_places - 1; links = replicate most_links largest_link }

-- what holds of the link holds of each
of_each : (P : Link → Type 0) → P largest_link → (e : ℕ) → e < length (replicate most_links largest_link) → P (link largest_network e)
unfolding link
of_each P p e h = same_element P most_links largest_link no_link e h p

largest_well_formed : WellFormed largest_network
largest_well_formed = record {
  connects = record {
    origin_in = omega arith;
    destination_in = omega arith;
    apart = λ e. omega arith;
    start_in = of_each (λ l. l.start < most_places) (omega arith);
    end_in = of_each (λ l. l.end < most_places) (omega arith);
  };
  places_least = omega arith;
  places_most = omega arith;
  links_least = omega arith;
  links_most = omega arith;
  no_loop = of_each (λ l. l.start ≡ l.end → ⊥) (λ e. omega arith);
  capacity_most = of_each (λ l. l.capacity ≤ most_capacity) (omega arith);
  transit_most = of_each (λ l. l.transit ≤ most_transit) (omega arith);
}

pub largest_read : read_network (record_of largest_network) ≡ accepted largest_network []
largest_read = record_is_read largest_network largest_well_formed

links_longest : (n : ℕ) → length (encode (link_numbers (replicate n largest_link))) ≡ n * longest_link
unfolding longest_link width shortest
links_longest zero = omega (arith, widths_none)
links_longest (suc n) =
    let rest : List ℕ = link_numbers (replicate n largest_link) in
    omega (
      arith,
      widths_cons (most_places - 2) ((most_places - 1) ∷ most_capacity ∷ most_transit ∷ rest),
      widths_cons (most_places - 1) (most_capacity ∷ most_transit ∷ rest),
      widths_cons most_capacity (most_transit ∷ rest),
      widths_cons most_transit rest,
      links_longest n,
    )

network_longest : length (record_of largest_network) ≡ most_network_octets
unfolding record_of longest_network_record width shortest
network_longest =
    let links : List ℕ = link_numbers (replicate most_links largest_link) in
    omega (
      arith,
      widths_cons most_places ((most_places - 2) ∷ (most_places - 1) ∷ most_links ∷ links),
      widths_cons (most_places - 2) ((most_places - 1) ∷ most_links ∷ links),
      widths_cons (most_places - 1) (most_links ∷ links),
      widths_cons most_links links,
      links_longest most_links,
      longest_network_record_lem,
    )

-- the record that has 37,789 octets, and that it is read
pub longest_shown : length (carrying (record_of largest_network) largest_plan) ≡ 37789
unfolding carrying width shortest
longest_shown =
    let front : length (shortest groups most_network_octets) ≡ 2 = refl in
    omega (
      arith,
      length-append (shortest groups (length (record_of largest_network))) (record_of largest_network ++ plans.record_of largest_plan),
      length-append (record_of largest_network) (plans.record_of largest_plan),
      ap (λ (n : ℕ). length (shortest groups n)) network_longest,
      network_longest,
      largest_longest,
      longest_plan_record_lem,
    )

pub longest_read : read_carrying (record_of largest_network) most_places most_links (carrying (record_of largest_network) largest_plan) ≡ accepted largest_plan []
longest_read =
    written_carrying (record_of largest_network) most_places most_links largest_plan (omega (arith, network_longest)) (omega arith) largest_in_limits
