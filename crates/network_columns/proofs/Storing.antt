-- The links of a struct changed one after another, by the numbers of a list: those so far have their numbers, the others are as they were,
-- and with all changed the struct holds the network with these numbers. Assumes nothing.
use mathlib.Core.Path.{◌≡◌, refl, sym, ap, subst⁻¹, ◌∙◌}
use mathlib.Core.List.{List, [], ◌∷◌, ◌++◌}
use Prim.Native.Nat.{ℕ, zero, suc, ◌+◌, ◌≤◌, ◌<◌}
use native.Mathlib.Omega.{arith}
use native.Mathlib.Decide.{ℕ_discrete}
use lib.ListN.{length, get_or, set, length-set}
use lib.Seq.{get_or-set_same, get_or-set_other}
use Rattle.limits.specs.Limits.{most_links}
use Rattle.flows.specs.declared.Link.{Link}
use Rattle.flows.specs.Network.{no_link}
use Rattle.network.specs.declared.Network.{Network}
use Rattle.network.specs.Held.{link_at, links_below, model_of}
use Rattle.network.proofs.Model.{length_links}
use Rattle.network_columns.specs.Columns.{of_capacity, of_transit, each, with_capacities, with_transits}
use Rattle.network_columns.proofs.Columns.{each_more}

-- the struct with other links
abbrev pub of_links : Network → List Link → Network
of_links net ls = record { places = net.places; origin = net.origin; destination = net.destination; count = net.count; links = ls }

-- The loop: the links before i have the numbers of the list ns.
pub record Stored (change : Link → ℕ → Link) (ns : List ℕ) (net now : Network) (i : ℕ) : Type 0 where
  pub size : length now.links ≡ most_links
  pub same : now ≡ of_links net now.links
  pub done : (e : ℕ) → e < i → link_at now e ≡ change (link_at net e) (get_or ns e 0)
  pub rest : (e : ℕ) → i ≤ e → link_at now e ≡ link_at net e

module _ (change : Link → ℕ → Link) (ns : List ℕ) (net : Network) where
  pub stored_none : length net.links ≡ most_links → Stored change ns net net 0
  stored_none size = record { size = size; same = refl; done = λ e h. absurd (omega arith); rest = λ e h. refl }

  pub stored_next : (now next : Network) (i : ℕ) → Stored change ns net now i → i < most_links
      → next ≡ of_links now (set now.links i (change (link_at now i) (get_or ns i 0))) → Stored change ns net next (i + 1)
  stored_next now next i s few is =
      let l : Link = change (link_at now i) (get_or ns i 0) in
      let links : next.links ≡ set now.links i l = ap (λ (n : Network). n.links) is in
      let at : (e : ℕ) → link_at next e ≡ get_or (set now.links i l) e no_link = λ e. ap (λ (ls : List Link). get_or ls e no_link) links in
      record {
        size = ap length links ∙ length-set now.links i l ∙ s.size;
        same = is ∙ ap (λ (n : Network). of_links n (set now.links i l)) s.same ∙ ap (of_links net) (sym links);
        done = λ e h.
            elim (ℕ_discrete e i) [
              | yes q ↦ subst⁻¹ (λ (k : ℕ). link_at next k ≡ change (link_at net k) (get_or ns k 0)) q
                  (at i ∙ get_or-set_same now.links i l no_link (omega (arith, s.size)) ∙ ap (λ (k : Link). change k (get_or ns i 0)) (s.rest i (omega arith)))
              | no d ↦ at e ∙ get_or-set_other now.links i e l no_link d ∙ s.done e (omega arith)
            ];
        rest = λ e h. at e ∙ get_or-set_other now.links i e l no_link (λ q. omega arith) ∙ s.rest e (omega arith);
      }

-- two structs whose links differ in one number
links_each : (change : Link → ℕ → Link) (net now : Network) (ns : List ℕ) (n : ℕ) → ((e : ℕ) → e < n → link_at now e ≡ change (link_at net e) (get_or ns e 0))
    → links_below now n ≡ each change (links_below net n) ns
unfolding each
links_each change net now ns zero h = refl
links_each change net now ns (suc n) h =
    let l : change (link_at net n) (get_or ns n 0) ≡ change (link_at net n) (get_or ns (length (links_below net n)) 0) =
    ap (λ (k : ℕ). change (link_at net n) (get_or ns k 0)) (sym (length_links net n)) in
    (λ j. links_each change net now ns n (λ e q. h e (omega arith)) j ++ ((h n (omega arith) ∙ l) j ∷ []))
    ∙ sym (each_more change (links_below net n) (link_at net n) ns)

module _ (net now : Network) (ns : List ℕ) (i : ℕ) (end : net.count ≤ i) where
  pub capacities_stored : Stored of_capacity ns net now i → model_of now ≡ with_capacities (model_of net) ns
  unfolding model_of with_capacities
  capacities_stored s =
      let links = links_each of_capacity net (of_links net now.links) ns net.count (λ e h. s.done e (omega arith)) in
      ap model_of s.same ∙ (λ j. record { places = net.places; origin = net.origin; destination = net.destination; links = links j })

  pub transits_stored : Stored of_transit ns net now i → model_of now ≡ with_transits (model_of net) ns
  unfolding model_of with_transits
  transits_stored s =
      let links = links_each of_transit net (of_links net now.links) ns net.count (λ e h. s.done e (omega arith)) in
      ap model_of s.same ∙ (λ j. record { places = net.places; origin = net.origin; destination = net.destination; links = links j })
