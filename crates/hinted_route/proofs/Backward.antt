-- A chain looked at from the destination back: each place that it visits is marked, and none that was marked is met again, so that it
-- visits no place twice. Assumes nothing.
use mathlib.Core.Path.{◌≡◌, refl, sym, ap, subst, ◌∙◌}
use mathlib.Core.Logic.{◌≢◌}
use mathlib.Core.Bool.{Bool, true, false, cond}
use mathlib.Core.List.{List, [], ◌∷◌}
use Prim.Native.Nat.{ℕ, ◌+◌, ◌-◌, ◌≤◌, ◌<◌}
use native.Mathlib.Omega.{arith}
use native.Mathlib.Decide.{ℕ_discrete, dec_lt}
use lib.ListN.{length, get_or, set, replicate, take, drop, length-set, length-take, length-replicate, get_or-replicate, get_or-eq_default}
use lib.Seq.{get_or-set_same, get_or-set_other}
use Rattle.limits.specs.Limits.{most_places, most_row_links}
use Rattle.flows.specs.Sums.{only}
use Rattle.flows.proofs.Sums.{only_same, only_other}
use Rattle.flows.specs.Network.{Network, link, count}
use Rattle.flows.specs.Rows.{Leads}
use Rattle.network.specs.declared.Network as held
use Rattle.network.specs.Held.{link_at, model_of}
use Rattle.network.proofs.Model.{origin_model, destination_model}
use Rattle.network.proofs.Links.{is_link, start_is, end_is}
use Rattle.statics.specs.Reach.{visits, Open, IsRoute}
use Rattle.routes.proofs.Along.{along_next, along_done}
use Rattle.hinted_route.specs.Remaining.{Remains, IsRouteOver}

-- ---- the marks

-- how often a place may be visited by a chain that visits the marked places alone, each once
abbrev mark : Bool → ℕ
mark b = cond b 1 0

mark_most : (b : Bool) → mark b ≤ 1
mark_most b = elim b as (λ v. mark v ≤ 1) [ true ↦ omega arith | false ↦ omega arith ]

-- the chain es leads from `place` to the destination over links with room, and visits no place that is not marked, and none twice
pub record Met (N : Network) (es : List ℕ) (place : ℕ) (seen : List Bool) : Type 0 where
  pub leads : Leads N place N.destination es
  pub opens : Open N es
  pub marked : (u : ℕ) → visits N place es u ≤ mark (get_or seen u false)

unmarked : (n u : ℕ) → get_or (replicate n false) u false ≡ false
unmarked n u =
    elim (dec_lt u n) [
      | yes p ↦ get_or-replicate n u false false p
      | no p ↦ get_or-eq_default (replicate n false) false {n = u} (omega (arith, length-replicate {A = Bool} n false))
    ]

-- a mark more
mark_more : (seen : List Bool) (v : ℕ) → v < length seen → (f : ℕ → ℕ) → ((u : ℕ) → f u ≤ mark (get_or seen u false))
    → get_or seen v false ≡ false → (u : ℕ) → only v u 1 + f u ≤ mark (get_or (set seen v true) u false)
mark_more seen v l f h z u =
    elim (ℕ_discrete u v) [
      | yes e ↦ subst (λ (t : ℕ). only v t 1 + f t ≤ mark (get_or (set seen v true) t false)) (sym e)
          (rw (get_or-set_same seen v true false l) (omega (arith, only_same v 1, rw z at (h v))))
      | no d ↦ rw (get_or-set_other seen v u true false d) (omega (arith, only_other v u 1 (λ q. d (sym q)), h u))
    ]

-- ---- over what is left of a struct's network

module _ (net : held.Network) (left : List ℕ) (M : Network) (rest : Remains (model_of net) left M) where
  pub met_none : net.destination < most_places → Met M [] net.destination (set (replicate 64 false) net.destination true)
  met_none l =
      let d : ℕ = net.destination in
      record {
        leads = sym (rest.destination ∙ destination_model net);
        opens = tt;
        marked = λ u. omega (arith, mark_more (replicate 64 false) d l (λ t. 0) (λ t. omega arith) (unmarked 64 d) u);
      }

  pub met_more : (es : List ℕ) (place : ℕ) (seen : List Bool) → Met M es place seen → length seen ≡ most_places
      → (e : ℕ) → e < net.count → (link_at net e).end ≡ place → get_or left e 0 ≢ 0 → (link_at net e).start < most_places
      → get_or seen (link_at net e).start false ≡ false → Met M (e ∷ es) (link_at net e).start (set seen (link_at net e).start true)
  met_more es place seen met size e known ends some from unseen =
      let a : ℕ = (link_at net e).start in
      let inside : e < count (model_of net) = is_link net e known in
      let end : (link M e).end ≡ place = rest.end e inside ∙ end_is net e known ∙ ends in
      record {
        leads = (omega (arith, rest.links, inside), rest.start e inside ∙ start_is net e known, rw end met.leads);
        opens = (omega (arith, rest.capacity e inside, some), met.opens);
        marked = λ u.
            let v = ap (λ (t : ℕ). visits M t es u) end in
            omega (arith, v, mark_more seen a (omega arith) (visits M place es) met.marked unseen u);
      }

  pub met_route : (es : List ℕ) (place : ℕ) (seen : List Bool) → Met M es place seen → place ≡ net.origin
      → length es ≤ most_row_links → IsRoute M es
  met_route es place seen met home short =
      let at : place ≡ M.origin = home ∙ sym (rest.origin ∙ origin_model net) in
      record {
        chain = subst (λ (t : ℕ). Leads M t M.destination es) at met.leads;
        opens = met.opens;
        simple = λ u. omega (arith, ap (λ (t : ℕ). visits M t es u) at, met.marked u, mark_most (get_or seen u false));
        short = short;
      }

-- ---- looking at a route from its last link on

pub record Looking (net : held.Network) (left route : List ℕ) (count : ℕ) (seen : List Bool) (place i : ℕ) : Type 0 where
  pub inside : i ≤ count
  pub size : length seen ≡ most_places
  pub met : (M : Network) → Remains (model_of net) left M → Met M (drop i (take count route)) place seen

module _ (net : held.Network) (left route : List ℕ) (count : ℕ) where
  pub looking_begins : net.destination < most_places
      → Looking net left route count (set (replicate 64 false) net.destination true) net.destination count
  looking_begins l =
      record {
        inside = omega arith;
        size = length-set (replicate 64 false) net.destination true;
        met = λ M rest. rw (along_done route count count (omega arith)) (met_none net left M rest l);
      }

  module _ (seen : List Bool) (place i : ℕ) (looking : Looking net left route count seen place i)
      (long : length route ≡ most_row_links) (few : count ≤ most_row_links) where
    pub looking_next : 0 < i → (e : ℕ) → e ≡ get_or route (i - 1) 0 → e < net.count → (link_at net e).end ≡ place → get_or left e 0 ≢ 0
        → (link_at net e).start < most_places → get_or seen (link_at net e).start false ≡ false
        → Looking net left route count (set seen (link_at net e).start true) (link_at net e).start (i - 1)
    looking_next pos e is known ends some from unseen =
        let back : i - 1 + 1 ≡ i = omega arith in
        let next : drop (i - 1) (take count route) ≡ e ∷ drop i (take count route) =
        along_next route count (i - 1) (omega arith) (omega (arith, looking.inside)) ∙ rw (back, is) refl in
        record {
          inside = omega (arith, looking.inside);
          size = length-set seen (link_at net e).start true ∙ looking.size;
          met = λ M rest. rw next
              (met_more net left M rest (drop i (take count route)) place seen (looking.met M rest) looking.size e known ends some from unseen);
        }

    pub looking_ends : i ≡ 0 → place ≡ net.origin → IsRouteOver net left (take count route)
    looking_ends done home M rest =
        let all = rw done at (looking.met M rest) in
        met_route net left M rest (take count route) place seen all home (omega (arith, length-take count route))
