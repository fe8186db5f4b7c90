-- A network whose links have other numbers in one column: link by link it is the network before but for that number, so that what holds of
-- the others stays. Assumes nothing.
use mathlib.Core.Path.{◌≡◌, refl, ap, ◌∙◌}
use mathlib.Core.List.{List, [], ◌∷◌, ◌++◌}
use Prim.Native.Nat.{ℕ, zero, suc, ◌≤◌, ◌<◌}
use native.Mathlib.Omega.{arith}
use lib.ListN.{length, get_or, drop}
use Rattle.limits.specs.Limits.{most_capacity, most_transit}
use Rattle.flows.specs.declared.Link.{Link}
use Rattle.flows.specs.Network as model
use Rattle.flows.specs.Network.{no_link, link, count, WellFormed}
use Rattle.network_columns.specs.Columns.{of_capacity, of_transit, each, with_each, with_capacities, with_transits}

----- Link by link

-- the number after the first
second : (ns : List ℕ) (e : ℕ) → get_or (drop 1 ns) e 0 ≡ get_or ns (suc e) 0
second [] e = refl
second (n ∷ ns) e = refl

module _ (change : Link → ℕ → Link) where
  length_each : (ls : List Link) (ns : List ℕ) → length (each change ls ns) ≡ length ls
  unfolding each
  length_each [] ns = refl
  length_each (l ∷ ls) ns = ap suc (length_each ls (drop 1 ns))

  get_or_each : (ls : List Link) (ns : List ℕ) (e : ℕ) → e < length ls → get_or (each change ls ns) e no_link ≡ change (get_or ls e no_link) (get_or ns e 0)
  unfolding each
  get_or_each [] ns e h = absurd (omega arith)
  get_or_each (l ∷ ls) ns zero h = refl
  get_or_each (l ∷ ls) ns (suc e) h = get_or_each ls (drop 1 ns) e (omega arith) ∙ ap (change (get_or ls e no_link)) (second ns e)

  -- one link more
  pub each_more : (ls : List Link) (l : Link) (ns : List ℕ) → each change (ls ++ (l ∷ [])) ns ≡ each change ls ns ++ (change l (get_or ns (length ls) 0) ∷ [])
  unfolding each
  each_more [] l ns = refl
  each_more (k ∷ ls) l ns =
      ap (λ (r : List Link). change k (get_or ns 0 0) ∷ r)
      (each_more ls l (drop 1 ns) ∙ ap (λ (n : ℕ). each change ls (drop 1 ns) ++ (change l n ∷ [])) (second ns (length ls)))

  module _ (N : model.Network) (ns : List ℕ) where
    pub count_each : count (with_each change N ns) ≡ count N
    count_each = length_each N.links ns

    pub link_each : (e : ℕ) → e < count N → link (with_each change N ns) e ≡ change (link N e) (get_or ns e 0)
    unfolding link
    link_each e h = get_or_each N.links ns e h

    -- within the limits it stays within them, if starts and ends stay and the new numbers are within theirs
    each_formed : ((l : Link) (n : ℕ) → (change l n).start ≡ l.start) → ((l : Link) (n : ℕ) → (change l n).end ≡ l.end) → WellFormed N
        → ((e : ℕ) → e < count N → (change (link N e) (get_or ns e 0)).capacity ≤ most_capacity)
        → ((e : ℕ) → e < count N → (change (link N e) (get_or ns e 0)).transit ≤ most_transit) → WellFormed (with_each change N ns)
    each_formed starts ends w capacities transits =
        let n : count (with_each change N ns) ≡ count N = count_each in
        let at : (e : ℕ) → e < count (with_each change N ns) → link (with_each change N ns) e ≡ change (link N e) (get_or ns e 0) = λ e l. link_each e (omega arith) in
        record {
          connects = record {
            origin_in = w.connects.origin_in;
            destination_in = w.connects.destination_in;
            apart = w.connects.apart;
            start_in = λ e l. rw (at e l, starts) (w.connects.start_in e (omega arith));
            end_in = λ e l. rw (at e l, ends) (w.connects.end_in e (omega arith));
          };
          places_least = w.places_least;
          places_most = w.places_most;
          links_least = omega (arith, w.links_least);
          links_most = omega (arith, w.links_most);
          no_loop = λ e l. rw (at e l, starts, ends) (w.no_loop e (omega arith));
          capacity_most = λ e l. rw (at e l) (capacities e (omega arith));
          transit_most = λ e l. rw (at e l) (transits e (omega arith));
        }

----- What stays, and what the new numbers decide

-- two networks with the same places and as many links
pub record Alike (N M : model.Network) : Type 0 where
  pub places : M.places ≡ N.places
  pub origin : M.origin ≡ N.origin
  pub destination : M.destination ≡ N.destination
  pub links : count M ≡ count N

module _ (N : model.Network) (ns : List ℕ) where
  pub capacities_alike : Alike N (with_capacities N ns)
  unfolding with_capacities
  capacities_alike = record { places = refl; origin = refl; destination = refl; links = count_each of_capacity N ns }

  -- start, end and transit stay
  pub link_capacities : (e : ℕ) → e < count N → link (with_capacities N ns) e ≡ of_capacity (link N e) (get_or ns e 0)
  unfolding with_capacities
  link_capacities e h = link_each of_capacity N ns e h

  pub capacities_formed : WellFormed N → ((e : ℕ) → e < count N → get_or ns e 0 ≤ most_capacity) → WellFormed (with_capacities N ns)
  unfolding with_capacities
  capacities_formed w h =
      each_formed of_capacity N ns (λ l n. refl) (λ l n. refl) w h w.transit_most

  pub transits_alike : Alike N (with_transits N ns)
  unfolding with_transits
  transits_alike = record { places = refl; origin = refl; destination = refl; links = count_each of_transit N ns }

  -- start, end and capacity stay
  pub link_transits : (e : ℕ) → e < count N → link (with_transits N ns) e ≡ of_transit (link N e) (get_or ns e 0)
  unfolding with_transits
  link_transits e h = link_each of_transit N ns e h

  pub transits_formed : WellFormed N → ((e : ℕ) → e < count N → get_or ns e 0 ≤ most_transit) → WellFormed (with_transits N ns)
  unfolding with_transits
  transits_formed w h = each_formed of_transit N ns (λ l n. refl) (λ l n. refl) w w.capacity_most h
