-- Laws of a network's record: its numbers have a shortest form, and the record is four numbers and then four for each link. Assumes
-- nothing.
use mathlib.Core.Path.{◌≡◌, sym, ap, subst, ◌∙◌}
use mathlib.Core.List.{List, [], ◌∷◌, ◌++◌}
use Prim.Native.Nat.{ℕ, suc, ◌+◌, ◌*◌, ◌≤◌, ◌<◌}
use native.Mathlib.Omega.{arith}
use native.Mathlib.Numerals.{add-one}
use lib.ListN.{length, get_or, drop, drop_of_length-le}
use lib.Seq.{drop-cons}
use Rattle.limits.specs.Limits.{most_places, most_links}
use Rattle.numbers.specs.Leb128.{groups, encode, over, over_at}
use Rattle.numbers.specs.Writing.{Fit, Writable}
use Rattle.numbers.proofs.Stages.{length_encode, Stage, stage_none, stage_writable, stage_next, stage_all, rest_writable, rest_all, front_all}
use Rattle.numbers.proofs.Widths.{widths_none}
use Rattle.flows.specs.declared.Link.{Link}
use Rattle.flows.specs.Network.{no_link, WellFormed}
use Rattle.network.specs.declared.Network.{Network}
use Rattle.network.specs.Record.{link_numbers, record_of}
use Rattle.network.specs.Held.{links_below, model_of}
use Rattle.network.proofs.Model.{length_links, count_model}
use Rattle.network.proofs.WellFormed.{LinkIn, links_within}
use Rattle.network_check.specs.Check.{fine, network_refusal}
use Rattle.network_check.proofs.Checking.{refusal_none}

----- The record: four numbers at its head, and four for each link

abbrev pub head_four : Network → List ℕ
head_four net = net.places ∷ net.origin ∷ net.destination ∷ net.count ∷ []

abbrev pub link_four : Link → List ℕ
link_four l = l.start ∷ l.end ∷ l.capacity ∷ l.transit ∷ []

abbrev pub links_of : Network → List Link
links_of net = links_below net net.count

-- all numbers
abbrev pub numbers_in : Network → List ℕ
numbers_in net = head_four net ++ link_numbers (links_of net)

record_numbers : (net : Network) → record_of (model_of net) ≡ encode (numbers_in net)
unfolding record_of model_of
record_numbers net = ap (λ (n : ℕ). encode (net.places ∷ net.origin ∷ net.destination ∷ n ∷ link_numbers (links_of net))) (length_links net net.count)

record_split : (net : Network) → length (record_of (model_of net)) ≡ length (encode (head_four net)) + length (encode (link_numbers (links_of net)))
record_split net = ap length (record_numbers net) ∙ length_encode (head_four net) (link_numbers (links_of net))

-- of links, those from i on are link i and those after it
from_next : (ls : List Link) (i : ℕ) → i < length ls → drop i ls ≡ get_or ls i no_link ∷ drop (i + 1) ls
from_next ls i h = drop-cons ls i no_link h ∙ (λ j. get_or ls i no_link ∷ drop (sym (add-one i) j) ls)

-- from their number on there are none
from_end : (ls : List Link) (i : ℕ) → length ls ≤ i → drop i ls ≡ []
from_end ls i h = drop_of_length-le ls {i = i} h

----- The numbers of a network that is not refused have a shortest form

link_fits : (places : ℕ) (l : Link) (ls : List Link) → places ≤ most_places → LinkIn places l → Fit (link_numbers ls) → Fit (link_numbers (l ∷ ls))
link_fits places l ls p i f = (omega (arith, i.start_in), (omega (arith, i.end_in), (omega (arith, i.capacity_most), (omega (arith, i.transit_most), f))))

links_fit : (places : ℕ) (ls : List Link) → places ≤ most_places → ((e : ℕ) → e < length ls → LinkIn places (get_or ls e no_link)) → Fit (link_numbers ls)
links_fit places [] p i = tt
links_fit places (l ∷ ls) p i = link_fits places l ls p (i 0 (omega arith)) (links_fit places ls p (λ e h. i (suc e) (omega arith)))

module _ (net : Network) (unrefused : network_refusal (model_of net) ≡ fine) where
  formed : WellFormed (model_of net)
  formed = refusal_none (model_of net) unrefused

  pub few_links : net.count ≤ most_links
  few_links = omega (arith, formed.links_most, count_model net)

  pub head_fit : Fit (head_four net)
  unfolding model_of
  head_fit =
      let k = formed.connects in (
        omega (arith, formed.places_most),
        (omega (arith, formed.places_most, k.origin_in), (omega (arith, formed.places_most, k.destination_in), (omega (arith, few_links), tt))),
      )

  pub link_fit : (ls : List Link) (i : ℕ) → ls ≡ links_of net → i < length ls → Fit (link_four (get_or ls i no_link))
  unfolding model_of
  link_fit ls i q lt =
      let l : i < length (links_of net) = omega (arith, ap length q) in
      rw q (link_fits net.places (get_or (links_of net) i no_link) [] formed.places_most (links_within (model_of net) formed i l) tt)

  pub record_writable : (b : List ℕ) → length (record_of (model_of net)) ≤ length b → Writable (numbers_in net) b 0
  unfolding model_of
  record_writable b h =
      let links = links_fit net.places (links_of net) formed.places_most (links_within (model_of net) formed) in
      record { fit = let f = head_fit in (f.0, (f.1.0, (f.1.1.0, (f.1.1.1.0, links)))); room = omega (arith, ap length (record_numbers net)) }

----- The loop that adds up the record's length: size is the length up to link i

pub record Sized (net : Network) (ls : List Link) (size i : ℕ) : Type 0 where
  pub below : i ≤ length ls
  pub to_come : size + length (encode (link_numbers (drop i ls))) ≡ length (record_of (model_of net))
  pub most : size ≤ 4 * groups * (i + 1)

module _ (net : Network) (ls : List Link) where
  pub sized_none : (size : ℕ) → ls ≡ links_of net → size ≡ length (encode (head_four net)) → size ≤ 4 * groups → Sized net ls size 0
  sized_none size q e h =
      let k : length (encode (link_numbers ls)) ≡ length (encode (link_numbers (links_of net))) = ap (λ (x : List Link). length (encode (link_numbers x))) q in
      record { below = omega arith; to_come = omega (arith, record_split net, k); most = omega arith }

  pub sized_next : (size i r : ℕ) → Sized net ls size i → i < length ls → r ≡ length (encode (link_four (get_or ls i no_link))) → r ≤ 4 * groups
      → Sized net ls (size + r) (i + 1)
  sized_next size i r s lt e m =
      let n : length (encode (link_numbers (drop i ls))) ≡ length (encode (link_four (get_or ls i no_link))) + length (encode (link_numbers (drop (i + 1) ls))) =
      ap (λ (x : List Link). length (encode (link_numbers x))) (from_next ls i lt) ∙ length_encode (link_four (get_or ls i no_link)) (link_numbers (drop (i + 1) ls)) in
      record { below = omega arith; to_come = omega (arith, s.to_come, n); most = omega (arith, s.most) }

  pub sized_all : (size i : ℕ) → Sized net ls size i → length ls ≤ i → size ≡ length (record_of (model_of net))
  sized_all size i s h = omega (arith, s.to_come, ap (λ (x : List Link). length (encode (link_numbers x))) (from_end ls i h), widths_none)

----- The loop that writes links, each behind the one before it: those from i on are still to be written

module _ (ls : List Link) (b₀ : List ℕ) (start : ℕ) where
  abbrev pub Links : List ℕ → ℕ → ℕ → Type 0
  Links b at i = Stage (link_numbers ls) b₀ start (link_numbers (drop i ls)) b at

  module _ (w : Writable (link_numbers ls) b₀ start) (b : List ℕ) (at i : ℕ) (s : Links b at i) (lt : i < length ls) where
    link_stage : Stage (link_numbers ls) b₀ start (link_four (get_or ls i no_link) ++ link_numbers (drop (i + 1) ls)) b at
    link_stage = subst (λ (x : List Link). Stage (link_numbers ls) b₀ start (link_numbers x) b at) (from_next ls i lt) s

    pub link_writable : Writable (link_four (get_or ls i no_link)) b at
    link_writable = stage_writable (link_numbers ls) b₀ start w (link_four (get_or ls i no_link)) (link_numbers (drop (i + 1) ls)) b at link_stage

    pub link_next : (c : List ℕ) (end : ℕ) → (end ≡ at + length (encode (link_four (get_or ls i no_link)))) × (c ≡ over_at at (encode (link_four (get_or ls i no_link))) b)
        → Links c end (i + 1)
    link_next c end d =
        stage_next (link_numbers ls) b₀ start w (link_four (get_or ls i no_link)) (link_numbers (drop (i + 1) ls)) b at link_stage c end d

  pub links_all : (b : List ℕ) (at i : ℕ) → Links b at i → length ls ≤ i
      → (at ≡ start + length (encode (link_numbers ls))) × (b ≡ over_at start (encode (link_numbers ls)) b₀)
  links_all b at i s h =
      stage_all (link_numbers ls) b₀ start b at (subst (λ (x : List Link). Stage (link_numbers ls) b₀ start (link_numbers x) b at) (from_end ls i h) s)

----- The record: the head is written, and the links behind it

module _ (net : Network) (b₀ : List ℕ) (w : Writable (numbers_in net) b₀ 0) where
  abbrev whole : List ℕ
  whole = link_numbers (links_of net)

  pub head_writable : Writable (head_four net) b₀ 0
  head_writable = stage_writable (numbers_in net) b₀ 0 w (head_four net) whole b₀ 0 (stage_none (numbers_in net) b₀ 0 w)

  module _ (b₁ : List ℕ) (p : ℕ) (d : (p ≡ 0 + length (encode (head_four net))) × (b₁ ≡ over_at 0 (encode (head_four net)) b₀)) where
    head_stage : Stage (numbers_in net) b₀ 0 whole b₁ p
    head_stage = stage_next (numbers_in net) b₀ 0 w (head_four net) whole b₀ 0 (stage_none (numbers_in net) b₀ 0 w) b₁ p d

    pub rest_fits : Writable whole b₁ p
    rest_fits = rest_writable (numbers_in net) b₀ 0 w whole b₁ p head_stage

    -- with the head before them, the record is written
    pub record_all : (b : List ℕ) (at : ℕ) → (at ≡ p + length (encode whole)) × (b ≡ over_at p (encode whole) b₁)
        → (at ≡ length (record_of (model_of net))) × (b ≡ over (record_of (model_of net)) b₀)
    record_all b at e =
        rw (record_numbers net)
        (front_all (numbers_in net) b₀ b at (rest_all (numbers_in net) b₀ 0 w whole b₁ p head_stage b at e))
