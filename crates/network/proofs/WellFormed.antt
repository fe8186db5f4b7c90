-- What reading accepts is a network within the limits, read whole: the tests that it passed are the limits. Assumes nothing.
use mathlib.Core.Path.{◌≡◌, refl, sym, ap, subst, ◌∙◌}
use mathlib.Core.List.{List, [], ◌∷◌, ◌++◌, append-nil}
use Prim.Native.Nat.{ℕ, zero, suc, ◌-◌, ◌≤◌, ◌<◌}
use native.Mathlib.Omega.{arith}
use lib.ListN.{length, get_or}
use lib.Seq.{append_snoc}
use lib.Dec.{eqb}
use borrow.Author.Tests.{eqb-false}
use Rattle.limits.specs.Limits.{fewest_places, most_places, fewest_links, most_links, most_capacity, most_transit}
use Rattle.refusals.specs.declared.Refusal.TheVariants.{SameEnds, NetworkRemains}
use Rattle.numbers.specs.Field.{accepted}
use Rattle.numbers.proofs.Fields.{Accepted, field_accepted}
use Rattle.numbers.proofs.Parses.{then_accepted, test_accepted, complete_accepted}
use Rattle.flows.specs.declared.Link.{Link}
use Rattle.flows.specs.Network.{Network, no_link, link, WellFormed}
use Rattle.network.specs.Record.{number_refusals, number, read_link, read_links, read_rest, read_network}
use Rattle.network.proofs.Reading.{link_was}

number_accepted : (low high : ℕ) (s : List ℕ) (n : ℕ) (rest : List ℕ) → number low high s ≡ accepted n rest → Accepted low high s n rest
number_accepted low high s n rest h = field_accepted number_refusals low high s n rest h

----- Links

-- a link within the limits
pub record LinkIn (places : ℕ) (l : Link) : Type 0 where
  pub start_in : l.start ≤ places - 1
  pub end_in : l.end ≤ places - 1
  pub no_loop : l.start ≡ l.end → ⊥
  pub capacity_most : l.capacity ≤ most_capacity
  pub transit_most : l.transit ≤ most_transit

link_in : (places : ℕ) (s : List ℕ) (l : Link) (rest : List ℕ) → read_link places s ≡ accepted l rest → LinkIn places l
link_in places s l rest h =
    let w = link_was places s l rest h in
    record {
      start_in = (number_accepted _ _ _ _ _ w.start).high;
      end_in = (number_accepted _ _ _ _ _ w.end).high;
      no_loop = w.apart;
      capacity_most = (number_accepted _ _ _ _ _ w.capacity).high;
      transit_most = (number_accepted _ _ _ _ _ w.transit).high;
    }

-- links that were read one after another
pub data LinksWere (places : ℕ) : List ℕ → List Link → List ℕ → Type 0 where
  none : (s : List ℕ) → LinksWere places s [] s
  more : (s : List ℕ) (l : Link) (t : List ℕ) (ls : List Link) (rest : List ℕ) → read_link places s ≡ accepted l t → LinksWere places t ls rest
      → LinksWere places s (l ∷ ls) rest

-- read_links puts the links that it reads behind those before
pub record Table (n places : ℕ) (s : List ℕ) (before ls : List Link) (rest : List ℕ) : Type 0 where
  pub new : List Link
  pub size : length new ≡ n
  pub split : ls ≡ before ++ new
  pub were : LinksWere places s new rest

pub table : (n places : ℕ) (s : List ℕ) (before ls : List Link) (rest : List ℕ) → read_links n places s before ≡ accepted ls rest → Table n places s before ls rest
unfolding read_links
table zero places s before ls rest h =
    let e : before ≡ ls = cc in
    let r : s ≡ rest = cc in
    record { new = []; size = refl; split = sym (append-nil before ∙ e); were = rw (← r) (none s) }
table (suc n) places s before ls rest h =
    let a = then_accepted (read_link places s) _ ls rest h in
    let t = table n places a.1 (before ++ (a.0 ∷ [])) ls rest a.3 in
    record {
      new = a.0 ∷ t.new;
      size = ap suc t.size;
      split = t.split ∙ append_snoc before a.0 t.new;
      were = more s a.0 a.1 t.new rest a.2 t.were;
    }

pub links_in : (places : ℕ) (s : List ℕ) (ls : List Link) (rest : List ℕ) → LinksWere places s ls rest → (e : ℕ) → e < length ls → LinkIn places (get_or ls e no_link)
links_in places s ls rest (none t) e h = absurd (omega arith)
links_in places s ls rest (more u l t ks r f w) zero h = link_in places s l t f
links_in places s ls rest (more u l t ks r f w) (suc e) h = links_in places t ks rest w e (omega arith)

----- The network

-- a network that was read
pub record NetworkWas (s : List ℕ) (N : Network) : Type 0 where
  pub s₁ : List ℕ
  pub s₂ : List ℕ
  pub s₃ : List ℕ
  pub s₄ : List ℕ
  pub places : number fewest_places most_places s ≡ accepted N.places s₁
  pub origin : number 0 (N.places - 1) s₁ ≡ accepted N.origin s₂
  pub destination : number 0 (N.places - 1) s₂ ≡ accepted N.destination s₃
  pub apart : N.destination ≡ N.origin → ⊥
  pub links : number fewest_links most_links s₃ ≡ accepted (length N.links) s₄
  pub were : LinksWere N.places s₄ N.links []

pub network_was : (s : List ℕ) (N : Network) (rest : List ℕ) → read_network s ≡ accepted N rest → NetworkWas s N × (rest ≡ [])
unfolding read_network read_rest
network_was s N rest h =
    let a = then_accepted _ _ N rest h in
    let b = then_accepted _ _ N rest a.3 in
    let d = then_accepted _ _ N rest b.3 in
    let t = test_accepted (eqb d.0 b.0) SameEnds _ N rest d.3 in
    let k = then_accepted _ _ N rest t.1 in
    let w = then_accepted _ _ N rest k.3 in
    let o = table k.0 a.0 k.1 [] w.0 w.1 w.2 in
    let m : Network = record { places = a.0; origin = b.0; destination = d.0; links = w.0 } in
    let c = complete_accepted NetworkRemains m N w.1 rest w.3 in
    let v : NetworkWas s m = record {
      s₁ = a.1;
      s₂ = b.1;
      s₃ = d.1;
      s₄ = k.1;
      places = a.2;
      origin = b.2;
      destination = d.2;
      apart = eqb-false d.0 b.0 t.0;
      links = k.2 ∙ ap (λ (n : ℕ). accepted n k.1) (sym (ap length o.split ∙ o.size));
      were = subst (λ (x : List ℕ). LinksWere a.0 k.1 w.0 x) c.1 (subst (λ (x : List Link). LinksWere a.0 k.1 x w.1) (sym o.split) o.were);
    } in
    (subst (NetworkWas s) c.0 v, c.2)

module _ (s : List ℕ) (N : Network) (rest : List ℕ) (h : read_network s ≡ accepted N rest) where
  -- after the last number no octets remain
  pub nothing_remains : rest ≡ []
  nothing_remains = (network_was s N rest h).1

  -- what is read is within document 01's limits
  pub well_formed : WellFormed N
  unfolding link
  well_formed =
      let w = (network_was s N rest h).0 in
      let p = number_accepted _ _ _ _ _ w.places in
      let k = number_accepted _ _ _ _ _ w.links in
      let i = links_in N.places w.s₄ N.links [] w.were in
      record {
        connects = record {
          origin_in = omega (arith, (number_accepted _ _ _ _ _ w.origin).high);
          destination_in = omega (arith, (number_accepted _ _ _ _ _ w.destination).high);
          apart = w.apart;
          start_in = λ e l. omega (arith, (i e l).start_in);
          end_in = λ e l. omega (arith, (i e l).end_in);
        };
        places_least = p.low;
        places_most = p.high;
        links_least = k.low;
        links_most = k.high;
        no_loop = λ e l. (i e l).no_loop;
        capacity_most = λ e l. (i e l).capacity_most;
        transit_most = λ e l. (i e l).transit_most;
      }

-- the limits of each link, from those of the network
pub links_within : (N : Network) → WellFormed N → (e : ℕ) → e < length N.links → LinkIn N.places (get_or N.links e no_link)
unfolding link
links_within N w e l = record {
  start_in = omega (arith, w.connects.start_in e l);
  end_in = omega (arith, w.connects.end_in e l);
  no_loop = w.no_loop e l;
  capacity_most = w.capacity_most e l;
  transit_most = w.transit_most e l;
}
