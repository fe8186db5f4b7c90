-- A network that no test refuses is one within the limits, and the other way round: each test passes, or refuses whatever comes after
-- it. Assumes nothing.
use mathlib.Core.Path.{◌≡◌, refl, sym, ap, ◌∙◌}
use mathlib.Core.List.{List, [], ◌∷◌}
use mathlib.Core.Bool.{false, cond}
use Prim.Native.Nat.{ℕ, zero, suc, ◌+◌, ◌-◌, ◌≤◌, ◌<◌}
use native.Mathlib.Omega.{arith}
use native.Mathlib.Numerals.{add-one}
use lib.ListN.{length, get_or, drop, drop_of_length-le}
use lib.Seq.{drop-cons}
use lib.Dec.{eqb}
use borrow.Author.Tests.{le-ltb, eqb-false, ne_eqb}
use Rattle.std.specs.Prelude.{Ok, Err}
use Rattle.refusals.specs.declared.Refusal.{Refusal}
use Rattle.refusals.specs.declared.Refusal.TheVariants.{SameEnds}
use Rattle.refusals.specs.Numbers.{told}
use Rattle.refusals.proofs.Positive.{positive}
use Rattle.limits.specs.Limits.{fewest_places, most_places, fewest_links, most_links}
use Rattle.flows.specs.declared.Link.{Link}
use Rattle.flows.specs.Network.{Network, no_link, link, WellFormed}
use Rattle.network_check.specs.Check.{Tested, fine, limit, link_refusal, links_refusal, network_refusal}
use Rattle.network.specs.declared.Network as struct
use Rattle.network.specs.Held.{links_below, model_of}
use Rattle.network.proofs.Model.{length_links}
use Rattle.network.proofs.WellFormed.{LinkIn, links_within}
use Rattle.network_check.proofs.LinkTests.{Outcome, passes, refuses, both, limited, tested, link_passed, link_stopped, link_fine}

----- Links

links_head : (places : ℕ) (l : Link) (ls : List Link) → links_refusal places (l ∷ ls) ≡ fine → LinkIn places l × (links_refusal places ls ≡ fine)
unfolding links_refusal
links_head places l ls h = go (link_refusal places l fine) refl
  where
    go : (r : Tested) → link_refusal places l fine ≡ r → LinkIn places l × (links_refusal places ls ≡ fine)
    go (Ok x) e = let p = link_passed places l x e in (p.0, sym (p.1 (links_refusal places ls)) ∙ h)
    go (Err e) f =
        absurd (let z : Err e ≡ fine = sym (link_stopped places l e f (links_refusal places ls)) ∙ h in let z : ◌≡◌ {A = ℕ} 0 1 = cc in omega arith)

links_none : (places : ℕ) (ls : List Link) → links_refusal places ls ≡ fine → (e : ℕ) → e < length ls → LinkIn places (get_or ls e no_link)
links_none places [] h e lt = absurd (omega arith)
links_none places (l ∷ ls) h zero lt = (links_head places l ls h).0
links_none places (l ∷ ls) h (suc e) lt = links_none places ls (links_head places l ls h).1 e (omega arith)

links_fine : (places : ℕ) (ls : List Link) → ((e : ℕ) → e < length ls → LinkIn places (get_or ls e no_link)) → told (links_refusal places ls) ≡ 0
unfolding links_refusal
links_fine places [] i = refl
links_fine places (l ∷ ls) i =
    ap told (link_fine places l (i 0 (omega arith)) (links_refusal places ls)) ∙ links_fine places ls (λ e h. i (suc e) (omega arith))

----- The network

abbrev head_refusal : Network → Tested → Tested
head_refusal N next =
    limit fewest_places most_places N.places
    (limit 0 (N.places - 1) N.origin
    (limit 0 (N.places - 1) N.destination
    (cond (eqb N.destination N.origin) (Err SameEnds)
    (limit fewest_links most_links (length N.links)
    next))))

head_outcome : (N : Network)
    → Outcome (((fewest_places ≤ N.places) × (N.places ≤ most_places)) × (((0 ≤ N.origin) × (N.origin ≤ N.places - 1))
    × (((0 ≤ N.destination) × (N.destination ≤ N.places - 1)) × ((eqb N.destination N.origin ≡ false)
    × ((fewest_links ≤ length N.links) × (length N.links ≤ most_links)))))) (head_refusal N)
head_outcome N =
    both _ _ (limited fewest_places most_places N.places) (both _ _ (limited 0 (N.places - 1) N.origin)
    (both _ _ (limited 0 (N.places - 1) N.destination) (both _ _ (tested (eqb N.destination N.origin) SameEnds)
    (limited fewest_links most_links (length N.links)))))

-- what no test refuses is within the limits
pub refusal_none : (N : Network) → network_refusal N ≡ fine → WellFormed N
unfolding network_refusal link
refusal_none N h = elim (head_outcome N) [
  | refuses e a ↦ absurd (let z : Err e ≡ fine = sym (a (links_refusal N.places N.links)) ∙ h in let z : ◌≡◌ {A = ℕ} 0 1 = cc in omega arith)
  | passes p a ↦
      let i = links_none N.places N.links (sym (a (links_refusal N.places N.links)) ∙ h) in
      record {
        connects = record {
          origin_in = omega (arith, p.1.0.1, p.0.0);
          destination_in = omega (arith, p.1.1.0.1, p.0.0);
          apart = eqb-false N.destination N.origin p.1.1.1.0;
          start_in = λ e l. omega (arith, (i e l).start_in, p.0.0);
          end_in = λ e l. omega (arith, (i e l).end_in, p.0.0);
        };
        places_least = p.0.0;
        places_most = p.0.1;
        links_least = p.1.1.1.1.0;
        links_most = p.1.1.1.1.1;
        no_loop = λ e l. (i e l).no_loop;
        capacity_most = λ e l. (i e l).capacity_most;
        transit_most = λ e l. (i e l).transit_most;
      }
]

-- what is within the limits no test refuses
pub refusal_fine : (N : Network) → WellFormed N → told (network_refusal N) ≡ 0
unfolding network_refusal link
refusal_fine N w =
    let i = links_within N w in
    rw (
      le-ltb N.places fewest_places w.places_least,
      le-ltb most_places N.places w.places_most,
      le-ltb N.origin 0 (omega arith),
      le-ltb (N.places - 1) N.origin (omega (arith, w.connects.origin_in)),
      le-ltb N.destination 0 (omega arith),
      le-ltb (N.places - 1) N.destination (omega (arith, w.connects.destination_in)),
      ne_eqb N.destination N.origin w.connects.apart,
      le-ltb (length N.links) fewest_links w.links_least,
      le-ltb most_links (length N.links) w.links_most,
    )
    (links_fine N.places N.links i)

pub network_fine : (N : Network) → WellFormed N → network_refusal N ≡ fine
network_fine N w = go (network_refusal N) (refusal_fine N w)
  where
    go : (t : Tested) → told t ≡ 0 → t ≡ fine
    go (Ok x) h = refl
    go (Err e) h = absurd (omega (arith, positive e))

-- the same of a struct's numbers
pub struct_refusal : (net : struct.Network) → network_refusal (model_of net)
    ≡ limit fewest_places most_places net.places
    (limit 0 (net.places - 1) net.origin
    (limit 0 (net.places - 1) net.destination
    (cond (eqb net.destination net.origin) (Err SameEnds)
    (limit fewest_links most_links net.count
    (links_refusal net.places (links_below net net.count))))))
unfolding network_refusal model_of
struct_refusal net = rw (length_links net net.count) refl

----- The checking loop: the links before i passed

pub record Checked (places : ℕ) (ls : List Link) (i : ℕ) : Type 0 where
  pub to_come : links_refusal places ls ≡ links_refusal places (drop i ls)

module _ (places : ℕ) (ls : List Link) (i : ℕ) (c : Checked places ls i) (lt : i < length ls) where
  next_link : links_refusal places ls ≡ link_refusal places (get_or ls i no_link) (links_refusal places (drop (suc i) ls))
  unfolding links_refusal
  next_link = c.to_come ∙ ap (links_refusal places) (drop-cons ls i no_link lt)

  pub checked_next : (x : Unit {0}) → Ok x ≡ link_refusal places (get_or ls i no_link) fine → Checked places ls (i + 1)
  checked_next x h = record { to_come = next_link ∙ rw add-one ((link_passed places (get_or ls i no_link) x (sym h)).1 _) }

  pub checked_refused : (e : Refusal) → Err e ≡ link_refusal places (get_or ls i no_link) fine → Err e ≡ links_refusal places ls
  checked_refused e h = sym (next_link ∙ link_stopped places (get_or ls i no_link) e (sym h) _)

pub checked_all : (places : ℕ) (ls : List Link) (i : ℕ) → Checked places ls i → length ls ≤ i → fine ≡ links_refusal places ls
unfolding links_refusal
checked_all places ls i c h = sym (c.to_come ∙ ap (links_refusal places) (drop_of_length-le ls {i = i} h))
