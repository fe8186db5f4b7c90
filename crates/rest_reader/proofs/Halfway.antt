-- Reading the links one after another: each way that the code can go. Assumes nothing.
use mathlib.Core.Path.{◌≡◌, ap, ◌∙◌}
use mathlib.Core.List.{List, [], ◌∷◌, ◌++◌}
use mathlib.Core.Bool.{true, false}
use Prim.Native.Nat.{ℕ, suc, ◌+◌, ◌-◌, ◌≤◌, ◌<◌}
use native.Mathlib.Omega.{arith}
use lib.ListN.{length, replicate, set, drop, length-append, length-drop}
use lib.Dec.{eqb}
use borrow.Author.Tests.{eq-eqb, ne_eqb}
use Rattle.limits.specs.Limits.{most_links}
use Rattle.std.specs.Prelude.{Ok, Err}
use Rattle.refusals.specs.declared.Refusal.{Refusal}
use Rattle.refusals.specs.declared.Refusal.TheVariants.{NetworkRemains}
use Rattle.numbers.specs.declared.Part.{Part}
use Rattle.numbers.proofs.Parts.{part_refused, set_next}
use Rattle.numbers.specs.Field.{refused, accepted, and_then, complete}
use Rattle.flows.specs.declared.Link.{Link}
use Rattle.flows.specs.Network.{no_link}
use Rattle.network.specs.declared.Network.{Network}
use Rattle.network.specs.Record.{read_link, read_links, read_rest}
use Rattle.network.specs.Held.{held, with_links, read_answer}
use Rattle.link_reader.specs.LinkAnswer.{link_answer}
use Rattle.link_reader.proofs.Links.{link_part}

-- a struct with link i set
abbrev pub network_with_link : Network → ℕ → Link → Network
network_with_link net i l = record {
  places = net.places;
  origin = net.origin;
  destination = net.destination;
  count = net.count;
  links = set net.links i l;
}

set_links : (ls : List Link) (l : Link) (i : ℕ) → length ls ≡ i → i < most_links
    → set (ls ++ replicate (most_links - length ls) no_link) i l ≡ (ls ++ (l ∷ [])) ++ replicate (most_links - length (ls ++ (l ∷ []))) no_link
set_links ls l i e h =
    let m : length (ls ++ (l ∷ [])) ≡ i + 1 = length-append ls (l ∷ []) ∙ omega arith in
    rw m (set_next most_links no_link ls l i (most_links - length ls) e h (omega arith))

set_link : (p o d n : ℕ) (ls : List Link) (l : Link) (i : ℕ) → length ls ≡ i → i < most_links
    → network_with_link (with_links p o d n ls) i l ≡ with_links p o d n (ls ++ (l ∷ []))
unfolding with_links
set_link p o d n ls l i e h = λ j. record { places = p; origin = o; destination = d; count = n; links = set_links ls l i e h j }

-- The reading loop: the first i links are in the struct, and what is to come from the position on is the whole answer.
pub record Halfway (s : List ℕ) (first places origin destination count : ℕ) (net : Network) (at i : ℕ) : Type 0 where
  pub below : i ≤ count
  pub inside : at ≤ length s
  pub before : List Link
  pub size : length before ≡ i
  pub holds : net ≡ with_links places origin destination count before
  pub to_come : read_links count places (drop first s) [] ≡ read_links (count - i) places (drop at s) before

module _ (s : List ℕ) (first places origin destination count : ℕ) (net : Network) (at i : ℕ) (h : Halfway s first places origin destination count net at i) where
  module _ (lt : i < count) where
    -- one link further
    pub halfway_next : count ≤ most_links → (r : Part Link) → Ok r ≡ link_answer (length s) (read_link places (drop at s))
        → Halfway s first places origin destination count (network_with_link net i r.value) r.next (i + 1)
    unfolding read_links and_then
    halfway_next most r e =
        let a = link_part places s at r h.inside e in
        let n : count - i ≡ suc (count - (i + 1)) = omega arith in
        record {
          below = omega arith;
          inside = a.inside;
          before = h.before ++ (r.value ∷ []);
          size = rw length-append (omega arith);
          holds = ap (λ x. network_with_link x i r.value) h.holds ∙ set_link places origin destination count h.before r.value i h.size (omega arith);
          to_come = h.to_come ∙ rw (n, a.accepts);
        }

    -- a link is refused
    pub halfway_refused : (e : Refusal) → Err e ≡ link_answer (length s) (read_link places (drop at s))
        → Err e ≡ read_answer (read_rest places origin destination count (drop first s))
    unfolding read_rest read_links and_then read_answer
    halfway_refused e f =
        let n : count - i ≡ suc (count - (i + 1)) = omega arith in
        let w : read_links count places (drop first s) [] ≡ refused e = h.to_come ∙ rw (n, part_refused (λ (l : Link). l) (length s) _ e f) in
        rw w

  all_read : i ≡ count → read_links count places (drop first s) [] ≡ accepted h.before (drop at s)
  unfolding read_links
  all_read q = let n : count - i ≡ 0 = omega arith in h.to_come ∙ rw n

  -- octets remain
  pub halfway_more : i ≡ count → at < length s
      → Err NetworkRemains ≡ read_answer (read_rest places origin destination count (drop first s))
  unfolding read_rest and_then complete read_answer
  halfway_more q lt =
      let t : eqb (length (drop at s)) 0 ≡ false = ne_eqb (length (drop at s)) 0 (λ z. omega (arith, length-drop at s)) in
      rw (all_read q, t)

  -- the network is read
  pub halfway_done : i ≡ count → length s ≤ at → Ok net ≡ read_answer (read_rest places origin destination count (drop first s))
  unfolding read_rest and_then complete read_answer held with_links
  halfway_done q le =
      let t : eqb (length (drop at s)) 0 ≡ true = eq-eqb (length (drop at s)) 0 (omega (arith, length-drop at s)) in
      let c : count ≡ length h.before = omega arith in
      let d : net ≡ with_links places origin destination (length h.before) h.before = h.holds ∙ ap (λ n. with_links places origin destination n h.before) c in
      ap Ok d ∙ rw (all_read q, t)
