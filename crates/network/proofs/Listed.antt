-- A struct and the list of its record's numbers, position by position: each number of the struct stands where document 01's order of the
-- record puts it; and a list of numbers and its network determine each other. By recursion over the links. Assumes nothing.
use mathlib.Core.Path.{◌≡◌, refl, sym, ap, ◌∙◌}
use mathlib.Core.List.{List, [], ◌∷◌, ◌++◌, append_assoc, append-nil}
use Prim.Native.Nat.{ℕ, zero, suc, ◌+◌, ◌*◌, ◌≤◌, ◌<◌}
use native.Mathlib.Omega.{arith}
use lib.ListN.{length, get_or, take, drop, replicate, length-append, replicate-append-replicate, get_or-append, get_or-eq_default}
use lib.Seq.{get_or-drop, take-suc}
use Rattle.flows.specs.declared.Link.{Link}
use Rattle.flows.specs.Network.{no_link, link, count}
use Rattle.flows.specs.Network as model
use Rattle.network.specs.declared.Network.{Network}
use Rattle.network.specs.Record.{link_numbers, numbers_of, link_of, links_of, network_of}
use Rattle.network.specs.Held.{with_links, held, link_at, links_below, model_of}
use Rattle.network.proofs.Model.{count_model, link_model, places_model, origin_model, destination_model}
use Rattle.network.proofs.Holding.{link_held, model_held, links_count_held}

-- a struct's numbers stand in a list: "places, origin, destination, links; then for each link its start, end, capacity, transit"
pub record Listed (net : Network) (ns : List ℕ) : Type 0 where
  pub places : get_or ns 0 0 ≡ net.places
  pub origin : get_or ns 1 0 ≡ net.origin
  pub destination : get_or ns 2 0 ≡ net.destination
  pub links : get_or ns 3 0 ≡ net.count
  pub start : (e : ℕ) → e < net.count → get_or ns (4 + 4 * e) 0 ≡ (link_at net e).start
  pub end : (e : ℕ) → e < net.count → get_or ns (5 + 4 * e) 0 ≡ (link_at net e).end
  pub capacity : (e : ℕ) → e < net.count → get_or ns (6 + 4 * e) 0 ≡ (link_at net e).capacity
  pub transit : (e : ℕ) → e < net.count → get_or ns (7 + 4 * e) 0 ≡ (link_at net e).transit

----- Where the numbers of a network stand

pub link_numbers_more : (ls : List Link) (l : Link) → link_numbers (ls ++ (l ∷ [])) ≡ link_numbers ls ++ (l.start ∷ l.end ∷ l.capacity ∷ l.transit ∷ [])
link_numbers_more [] l = refl
link_numbers_more (k ∷ ls) l = ap (λ (r : List ℕ). k.start ∷ k.end ∷ k.capacity ∷ k.transit ∷ r) (link_numbers_more ls l)

links_stand : (ls : List Link) (e : ℕ) → e < length ls
    → drop (4 * e) (link_numbers ls) ≡ link_numbers (get_or ls e no_link ∷ drop (suc e) ls)
links_stand [] e h = absurd (omega arith)
links_stand (l ∷ ls) zero h = refl
links_stand (l ∷ ls) (suc e) h =
    let q : 4 * suc e ≡ suc (suc (suc (suc (4 * e)))) = omega arith in
    rw q (links_stand ls e (omega arith))

-- the number i of link e
stands : (N : model.Network) (e i p : ℕ) → e < count N → p ≡ suc (suc (suc (suc (4 * e + i))))
    → get_or (numbers_of N) p 0 ≡ get_or (link_numbers (link N e ∷ drop (suc e) N.links)) i 0
unfolding link
stands N e i p h q =
    ap (λ (k : ℕ). get_or (numbers_of N) k 0) q
    ∙ sym (get_or-drop (4 * e) (link_numbers N.links) i 0)
    ∙ ap (λ (r : List ℕ). get_or r i 0) (links_stand N.links e h)

-- link e of the list of a network's numbers
link_stands : (N : model.Network) (e : ℕ) → e < count N → link_of (numbers_of N) e ≡ link N e
link_stands N e h = λ j. record {
  start = stands N e 0 (4 + 4 * e) h (omega arith) j;
  end = stands N e 1 (5 + 4 * e) h (omega arith) j;
  capacity = stands N e 2 (6 + 4 * e) h (omega arith) j;
  transit = stands N e 3 (7 + 4 * e) h (omega arith) j;
}

-- a struct and a list of numbers that hold the same links
module _ (net : Network) (ns : List ℕ) where
  all_listed : get_or ns 0 0 ≡ net.places → get_or ns 1 0 ≡ net.origin → get_or ns 2 0 ≡ net.destination → get_or ns 3 0 ≡ net.count
      → ((e : ℕ) → e < net.count → link_of ns e ≡ link_at net e) → Listed net ns
  all_listed p o d n s = record {
    places = p;
    origin = o;
    destination = d;
    links = n;
    start = λ e h. ap (λ (l : Link). l.start) (s e h);
    end = λ e h. ap (λ (l : Link). l.end) (s e h);
    capacity = λ e h. ap (λ (l : Link). l.capacity) (s e h);
    transit = λ e h. ap (λ (l : Link). l.transit) (s e h);
  }

----- The struct's numbers in record order

-- the struct of a network
pub held_listed : (N : model.Network) → Listed (held N) (numbers_of N)
unfolding held with_links
held_listed N = all_listed (held N) (numbers_of N) refl refl refl refl (λ e h. link_stands N e h ∙ sym (link_held N e))

-- any struct, and the network that it holds
pub model_listed : (net : Network) → Listed net (numbers_of (model_of net))
model_listed net =
    all_listed net (numbers_of (model_of net)) (places_model net) (origin_model net) (destination_model net) (count_model net)
    (λ e h. link_stands (model_of net) e (omega (arith, count_model net)) ∙ link_model net e h)

-- "links past the number of links are 0 when read"
pub held_rest : (N : model.Network) (e : ℕ) → count N ≤ e → link_at (held N) e ≡ no_link
unfolding link
held_rest N e h = link_held N e ∙ get_or-eq_default N.links no_link {n = e} h

-- so the numbers of its first links, past the last one too, are those of the network, then zeros
pub numbers_held : (N : model.Network) (m : ℕ) → link_numbers (links_below (held N) (count N + m)) ≡ link_numbers N.links ++ replicate (4 * m) 0
unfolding model_of held with_links
numbers_held N zero =
    let q : count N + 0 ≡ count N = omega arith in
    rw q (ap (λ (M : model.Network). link_numbers M.links) (model_held N) ∙ sym (append-nil (link_numbers N.links)))
numbers_held N (suc m) =
    let k = count N + m in
    let q : count N + suc m ≡ suc k = omega arith in
    let p : 4 * suc m ≡ 4 * m + 4 = omega arith in
    ap (λ (n : ℕ). link_numbers (links_below (held N) n)) q
    ∙ link_numbers_more (links_below (held N) k) (link_at (held N) k)
    ∙ (λ j. numbers_held N m j ++ link_numbers (held_rest N k (omega arith) j ∷ []))
    ∙ append_assoc (link_numbers N.links) (replicate (4 * m) 0) (replicate 4 0)
    ∙ ap (λ (z : List ℕ). link_numbers N.links ++ z) (replicate-append-replicate (4 * m) 4 0 ∙ ap (λ (n : ℕ). replicate n 0) (sym p))

----- A list of numbers and its network determine each other

-- a list in which a struct's numbers stand has the network that the struct holds
module _ (net : Network) (ns : List ℕ) (l : Listed net ns) where
  link_same : (e : ℕ) → e < net.count → link_of ns e ≡ link_at net e
  link_same e h = λ j. record { start = l.start e h j; end = l.end e h j; capacity = l.capacity e h j; transit = l.transit e h j }

  links_same : (n : ℕ) → n ≤ net.count → links_of ns n ≡ links_below net n
  links_same zero h = refl
  links_same (suc n) h = λ j. links_same n (omega arith) j ++ (link_same n (omega arith) j ∷ [])

  pub listed_network : network_of ns ≡ model_of net
  unfolding model_of network_of
  listed_network =
      let s : links_of ns (get_or ns 3 0) ≡ links_below net net.count = ap (links_of ns) l.links ∙ links_same net.count (omega arith) in
      λ j. record { places = l.places j; origin = l.origin j; destination = l.destination j; links = s j }

pub length_link_numbers : (ls : List Link) → length (link_numbers ls) ≡ 4 * length ls
length_link_numbers [] = refl
length_link_numbers (l ∷ ls) = omega (arith, length_link_numbers ls)

pub length_numbers_of : (N : model.Network) → length (numbers_of N) ≡ 4 + 4 * count N
length_numbers_of N = omega (arith, length_link_numbers N.links)

-- numbers past the last link are not looked at
listed_more : (net : Network) (ns more : List ℕ) → 4 + 4 * net.count ≤ length ns → Listed net ns → Listed net (ns ++ more)
listed_more net ns more h l =
    let kept : (i : ℕ) → i < length ns → get_or (ns ++ more) i 0 ≡ get_or ns i 0 = λ i lt. get_or-append ns more 0 i lt in
    record {
      places = kept 0 (omega arith) ∙ l.places;
      origin = kept 1 (omega arith) ∙ l.origin;
      destination = kept 2 (omega arith) ∙ l.destination;
      links = kept 3 (omega arith) ∙ l.links;
      start = λ e lt. kept (4 + 4 * e) (omega arith) ∙ l.start e lt;
      end = λ e lt. kept (5 + 4 * e) (omega arith) ∙ l.end e lt;
      capacity = λ e lt. kept (6 + 4 * e) (omega arith) ∙ l.capacity e lt;
      transit = λ e lt. kept (7 + 4 * e) (omega arith) ∙ l.transit e lt;
    }

pub network_numbers : (N : model.Network) (more : List ℕ) → network_of (numbers_of N ++ more) ≡ N
network_numbers N more =
    listed_network (held N) (numbers_of N ++ more)
    (listed_more (held N) (numbers_of N) more (omega (arith, length_numbers_of N, links_count_held N)) (held_listed N))
    ∙ model_held N

take_four : (ns : List ℕ) (p : ℕ) → p + 4 ≤ length ns
    → take (suc (suc (suc (suc p)))) ns ≡ take p ns ++ (get_or ns p 0 ∷ get_or ns (suc p) 0 ∷ get_or ns (suc (suc p)) 0 ∷ get_or ns (suc (suc (suc p))) 0 ∷ [])
take_four ns p h =
    rw (
      take-suc ns (suc (suc (suc p))) 0 (omega arith),
      take-suc ns (suc (suc p)) 0 (omega arith),
      take-suc ns (suc p) 0 (omega arith),
      take-suc ns p 0 (omega arith),
    )
    (simp append_assoc)

length_links_of : (ns : List ℕ) (n : ℕ) → length (links_of ns n) ≡ n
length_links_of ns zero = refl
length_links_of ns (suc n) = length-append (links_of ns n) (link_of ns n ∷ []) ∙ omega (arith, length_links_of ns n)

pub count_numbers : (ns : List ℕ) → count (network_of ns) ≡ get_or ns 3 0
unfolding network_of
count_numbers ns = length_links_of ns (get_or ns 3 0)

-- the first four numbers and those of the first n links
front : (ns : List ℕ) (n : ℕ) → 4 + 4 * n ≤ length ns
    → get_or ns 0 0 ∷ get_or ns 1 0 ∷ get_or ns 2 0 ∷ get_or ns 3 0 ∷ link_numbers (links_of ns n) ≡ take (4 + 4 * n) ns
front ns zero h = sym (take_four ns 0 (omega arith))
front ns (suc n) h =
    let p = 4 + 4 * n in
    let q₀ : 4 + 4 * suc n ≡ suc (suc (suc (suc p))) = omega arith in
    let q₁ : 5 + 4 * n ≡ suc p = omega arith in
    let q₂ : 6 + 4 * n ≡ suc (suc p) = omega arith in
    let q₃ : 7 + 4 * n ≡ suc (suc (suc p)) = omega arith in
    ap (λ (r : List ℕ). get_or ns 0 0 ∷ get_or ns 1 0 ∷ get_or ns 2 0 ∷ get_or ns 3 0 ∷ r) (link_numbers_more (links_of ns n) (link_of ns n))
    ∙ ap (λ (r : List ℕ). r ++ (get_or ns (4 + 4 * n) 0 ∷ get_or ns (5 + 4 * n) 0 ∷ get_or ns (6 + 4 * n) 0 ∷ get_or ns (7 + 4 * n) 0 ∷ [])) (front ns n (omega arith))
    ∙ rw (q₀, q₁, q₂, q₃) (sym (take_four ns p (omega arith)))

pub numbers_network : (ns : List ℕ) → 4 + 4 * get_or ns 3 0 ≤ length ns → numbers_of (network_of ns) ≡ take (4 + 4 * get_or ns 3 0) ns
unfolding network_of
numbers_network ns h =
    let k = get_or ns 3 0 in
    ap (λ (n : ℕ). get_or ns 0 0 ∷ get_or ns 1 0 ∷ get_or ns 2 0 ∷ n ∷ link_numbers (links_of ns k)) (length_links_of ns k) ∙ front ns k h

-- networks with the same numbers are the same
pub numbers_determine : (N M : model.Network) → numbers_of N ≡ numbers_of M → N ≡ M
numbers_determine N M s = sym (network_numbers N []) ∙ ap (λ (ns : List ℕ). network_of (ns ++ [])) s ∙ network_numbers M []
