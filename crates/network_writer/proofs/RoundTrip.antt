-- A network and its record determine each other: what reading accepts, writing turns back into the same octets, and what writing
-- writes, reading turns back into the record's numbers; a record has at most 1,541 octets. It follows, number by number, from the same
-- fact on numbers. Assumes nothing.
use mathlib.Core.Path.{◌≡◌, refl, sym, ap, ◌∙◌}
use mathlib.Core.List.{List, [], ◌∷◌, ◌++◌, append_assoc, append-nil}
use Prim.Native.Nat.{ℕ, suc, ◌-◌, ◌*◌, ◌^◌, ◌≤◌, ◌<◌}
use native.Mathlib.Nat.{mul-le-mul}
use native.Mathlib.Omega.{arith}
use lib.ListN.{length, get_or, take}
use lib.Seq.{append_snoc, take-append_seam}
use borrow.Author.Tests.{ne_eqb}
use Rattle.std.specs.Prelude.{Ok, Err}
use Rattle.refusals.specs.Numbers.{told}
use Rattle.limits.specs.Limits.{fewest_places, most_places, fewest_links, most_links, most_capacity, most_transit}
use Rattle.numbers.specs.Leb128.{groups, Octets, shortest, encode, over}
use Rattle.numbers.specs.Field.{accepted, and_then, complete}
use Rattle.numbers.proofs.Fields.{field_written, written_field, octets_rest}
use Rattle.numbers.specs.Writing.{width}
use Rattle.numbers.proofs.Written.{encode_none, encode_cons}
use Rattle.numbers.proofs.Widths.{width_most, widths_none, widths_cons}
use Rattle.flows.specs.declared.Link.{Link}
use Rattle.flows.specs.Network.{Network, no_link, link, WellFormed}
use Rattle.network.specs.declared.Network as struct
use Rattle.network.specs.Record.{number_refusals, number, read_link, read_links, read_rest, read_network, link_numbers, numbers_of, record_of}
use Rattle.network.specs.Held.{held, model_of}
use Rattle.network_check.specs.Check.{Tested, fine, network_refusal}
use Rattle.network_check.proofs.Checking.{network_fine}
use Rattle.network_writer.specs.Write.{then_next, writing, writing_refusal, buffer_after}
use Rattle.network_writer.specs.Answer.{write_answer, write_buffer}
use Rattle.network.proofs.Holding.{model_held}
use Rattle.network.proofs.Reading.{link_was}
use Rattle.network.proofs.WellFormed.{LinkIn, links_within, LinksWere, none, more, network_was, well_formed}
use Rattle.network_writer.specs.Longest.{longest_link, longest_network_record}
use Rattle.network_writer.proofs.Writing.{writing_none, write_whole}

----- What is read was written

-- a number that was read stands at the front
number_written : (low high : ℕ) (s : List ℕ) (n : ℕ) (t : List ℕ) → Octets s → number low high s ≡ accepted n t → (s ≡ shortest groups n ++ t) × Octets t
number_written low high s n t o h =
    let e = written_field number_refusals low high s n t o h in
    (e, octets_rest s (shortest groups n) t e o)

-- in front of what is encoded
in_front : (s : List ℕ) (n : ℕ) (t : List ℕ) (ns rest : List ℕ) → s ≡ shortest groups n ++ t → t ≡ encode ns ++ rest → s ≡ encode (n ∷ ns) ++ rest
in_front s n t ns rest e f =
    e ∙ ap (λ (r : List ℕ). shortest groups n ++ r) f ∙ sym (append_assoc (shortest groups n) (encode ns) rest) ∙ ap (λ (r : List ℕ). r ++ rest) (sym (encode_cons n ns))

links_written : (places : ℕ) (s : List ℕ) (ls : List Link) (rest : List ℕ) → Octets s → LinksWere places s ls rest → s ≡ encode (link_numbers ls) ++ rest
links_written places s ls rest o (none t) = ap (λ (r : List ℕ). r ++ rest) (sym encode_none)
links_written places s ls rest o (more u l t ks r f w) =
    let k = link_was places s l t f in
    let a = number_written _ _ _ _ _ o k.start in
    let b = number_written _ _ _ _ _ a.1 k.end in
    let c = number_written _ _ _ _ _ b.1 k.capacity in
    let d = number_written _ _ _ _ _ c.1 k.transit in
    in_front _ _ _ _ rest a.0 (in_front _ _ _ _ rest b.0 (in_front _ _ _ _ rest c.0 (in_front _ _ _ _ rest d.0 (links_written places t ks rest d.1 w))))

-- what is read is the network's record
pub read_is_record : (s : List ℕ) (N : Network) (rest : List ℕ) → Octets s → read_network s ≡ accepted N rest → record_of N ≡ s
unfolding record_of
read_is_record s N rest o h =
    let k = (network_was s N rest h).0 in
    let a = number_written _ _ _ _ _ o k.places in
    let b = number_written _ _ _ _ _ a.1 k.origin in
    let c = number_written _ _ _ _ _ b.1 k.destination in
    let d = number_written _ _ _ _ _ c.1 k.links in
    let e : s ≡ encode (numbers_of N) ++ [] =
    in_front _ _ _ _ [] a.0 (in_front _ _ _ _ [] b.0 (in_front _ _ _ _ [] c.0 (in_front _ _ _ _ [] d.0 (links_written N.places k.s₄ N.links [] d.1 k.were)))) in
    sym (e ∙ append-nil (encode (numbers_of N)))

-- What read accepts, write turns back into the same octets: into every buffer that has room for them.
pub read_then_write : (s : List ℕ) (N : Network) (rest b : List ℕ) → Octets s → read_network s ≡ accepted N rest → length s ≤ length b
    → (write_answer (held N) (length b) ≡ Ok (length s)) × (write_buffer (held N) b ≡ over s b)
read_then_write s N rest b o h l =
    let e : record_of (model_of (held N)) ≡ s = ap record_of (model_held N) ∙ read_is_record s N rest o h in
    let f : network_refusal (model_of (held N)) ≡ fine = ap network_refusal (model_held N) ∙ network_fine N (well_formed s N rest h) in
    let w = write_whole (held N) b (length s) (over s b) f (omega (arith, ap length e)) (ap length (sym e)) (ap (λ (z : List ℕ). over z b) (sym e)) in
    (sym w.0, sym w.1.1.1)

----- What is written is read

number_read : (low high n : ℕ) (ns rest : List ℕ) → low ≤ n → n ≤ high → n < 128 ^ groups → number low high (encode (n ∷ ns) ++ rest) ≡ accepted n (encode ns ++ rest)
number_read low high n ns rest l h b =
    ap (number low high) (ap (λ (r : List ℕ). r ++ rest) (encode_cons n ns) ∙ append_assoc (shortest groups n) (encode ns) rest)
    ∙ field_written number_refusals low high n (encode ns ++ rest) l h b

link_read : (places : ℕ) (l : Link) (ls : List Link) (rest : List ℕ) → places ≤ most_places → LinkIn places l
    → read_link places (encode (link_numbers (l ∷ ls)) ++ rest) ≡ accepted l (encode (link_numbers ls) ++ rest)
unfolding read_link and_then
link_read places l ls rest p i =
    rw (
      number_read 0 (places - 1) l.start (l.end ∷ l.capacity ∷ l.transit ∷ link_numbers ls) rest (omega arith) i.start_in (omega (arith, i.start_in)),
      number_read 0 (places - 1) l.end (l.capacity ∷ l.transit ∷ link_numbers ls) rest (omega arith) i.end_in (omega (arith, i.end_in)),
      ne_eqb l.start l.end i.no_loop,
      number_read 0 most_capacity l.capacity (l.transit ∷ link_numbers ls) rest (omega arith) i.capacity_most (omega (arith, i.capacity_most)),
      number_read 0 most_transit l.transit (link_numbers ls) rest (omega arith) i.transit_most (omega (arith, i.transit_most)),
    )

links_read : (places : ℕ) (ls before : List Link) (rest : List ℕ) → places ≤ most_places → ((e : ℕ) → e < length ls → LinkIn places (get_or ls e no_link))
    → read_links (length ls) places (encode (link_numbers ls) ++ rest) before ≡ accepted (before ++ ls) rest
unfolding read_links and_then
links_read places [] before rest p i = rw encode_none (ap (λ (x : List Link). accepted x rest) (sym (append-nil before)))
links_read places (l ∷ ls) before rest p i =
    rw (link_read places l ls rest p (i 0 (omega arith)))
    (links_read places ls (before ++ (l ∷ [])) rest p (λ e h. i (suc e) (omega arith)) ∙ ap (λ (x : List Link). accepted x rest) (append_snoc before l ls))

-- a network within the limits is read from its record
pub record_is_read : (N : Network) → WellFormed N → read_network (record_of N) ≡ accepted N []
unfolding read_network read_rest record_of and_then complete link
record_is_read N w =
    let k = w.connects in
    let i = links_within N w in
    ap read_network (sym (append-nil (encode (numbers_of N))))
    ∙ rw (
      number_read fewest_places most_places N.places (N.origin ∷ N.destination ∷ length N.links ∷ link_numbers N.links) [] w.places_least w.places_most (omega (arith, w.places_most)),
      number_read 0 (N.places - 1) N.origin (N.destination ∷ length N.links ∷ link_numbers N.links) [] (omega arith) (omega (arith, k.origin_in)) (omega (arith, k.origin_in, w.places_most)),
      number_read 0 (N.places - 1) N.destination (length N.links ∷ link_numbers N.links) [] (omega arith) (omega (arith, k.destination_in)) (omega (arith, k.destination_in, w.places_most)),
      ne_eqb N.destination N.origin k.apart,
      number_read fewest_links most_links (length N.links) (link_numbers N.links) [] w.links_least w.links_most (omega (arith, w.links_most)),
      links_read N.places N.links [] [] w.places_most i,
    )

answer_fine : (net : struct.Network) (size n : ℕ) → write_answer net size ≡ Ok n → (writing_refusal (model_of net) size ≡ 0) × (n ≡ length (record_of (model_of net)))
unfolding write_answer writing_refusal
answer_fine net size n h = go (writing (model_of net) size) refl h
  where
    go : (t : Tested) → writing (model_of net) size ≡ t → then_next t (Ok (length (record_of (model_of net)))) ≡ Ok n
        → (told (writing (model_of net) size) ≡ 0) × (n ≡ length (record_of (model_of net)))
    go (Err e) f g = absurd (let z : ◌≡◌ {A = ℕ} 0 1 = cc in omega arith)
    go (Ok x) f g = (ap told f, let q : length (record_of (model_of net)) ≡ n = cc in sym q)

-- What write writes, read turns back into the record's numbers: the struct's, without the links past their number.
pub write_then_read : (net : struct.Network) (b : List ℕ) (n : ℕ) → write_answer net (length b) ≡ Ok n
    → read_network (take n (write_buffer net b)) ≡ accepted (model_of net) []
unfolding write_buffer
write_then_read net b n h =
    let f = answer_fine net (length b) n h in
    let e : buffer_after (writing_refusal (model_of net) (length b)) (record_of (model_of net)) b ≡ over (record_of (model_of net)) b = rw f.0 in
    ap read_network ((λ i. take (f.1 i) (e i)) ∙ take-append_seam (record_of (model_of net)) _)
    ∙ record_is_read (model_of net) (writing_none (model_of net) (length b) f.0).0

----- "At most 1,541 octets"

pub longest_network_record_lem : longest_network_record ≡ 1541
unfolding longest_network_record longest_link width shortest
longest_network_record_lem = refl

length_links : (places : ℕ) (ls : List Link) → places ≤ most_places → ((e : ℕ) → e < length ls → LinkIn places (get_or ls e no_link))
    → length (encode (link_numbers ls)) ≤ length ls * longest_link
unfolding longest_link
length_links places [] p i = omega (arith, widths_none)
length_links places (l ∷ ls) p i =
    let k = i 0 (omega arith) in
    omega (
      arith,
      widths_cons l.start (l.end ∷ l.capacity ∷ l.transit ∷ link_numbers ls),
      widths_cons l.end (l.capacity ∷ l.transit ∷ link_numbers ls),
      widths_cons l.capacity (l.transit ∷ link_numbers ls),
      widths_cons l.transit (link_numbers ls),
      width_most l.start (most_places - 1) (omega (arith, k.start_in)),
      width_most l.end (most_places - 1) (omega (arith, k.end_in)),
      width_most l.capacity most_capacity k.capacity_most,
      width_most l.transit most_transit k.transit_most,
      length_links places ls p (λ e h. i (suc e) (omega arith)),
    )

pub record_length_most : (N : Network) → WellFormed N → length (record_of N) ≤ longest_network_record
unfolding record_of longest_network_record
record_length_most N w =
    let k = w.connects in
    let links : length N.links * longest_link ≤ most_links * longest_link = mul-le-mul w.links_most (omega arith) in
    omega (
      arith,
      widths_cons N.places (N.origin ∷ N.destination ∷ length N.links ∷ link_numbers N.links),
      widths_cons N.origin (N.destination ∷ length N.links ∷ link_numbers N.links),
      widths_cons N.destination (length N.links ∷ link_numbers N.links),
      widths_cons (length N.links) (link_numbers N.links),
      width_most N.places most_places w.places_most,
      width_most N.origin (most_places - 1) (omega (arith, k.origin_in, w.places_most)),
      width_most N.destination (most_places - 1) (omega (arith, k.destination_in, w.places_most)),
      width_most (length N.links) most_links w.links_most,
      length_links N.places N.links w.places_most (links_within N w),
    )

-- so has every record that is read
pub read_length_most : (s : List ℕ) (N : Network) (rest : List ℕ) → Octets s → read_network s ≡ accepted N rest → length s ≤ longest_network_record
read_length_most s N rest o h = omega (arith, record_length_most N (well_formed s N rest h), ap length (read_is_record s N rest o h))
