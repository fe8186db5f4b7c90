-- Two networks that differ in their capacities and transits alone have the same chains, which visit the same places: link by link, from
-- the starts and ends. Assumes nothing.
use mathlib.Core.Path.{◌≡◌, refl, sym, ap, subst, ◌∙◌}
use mathlib.Core.List.{List, [], ◌∷◌}
use Prim.Native.Nat.{ℕ, ◌+◌, ◌≤◌, ◌<◌}
use native.Mathlib.Omega.{arith}
use Rattle.flows.specs.Sums.{only}
use Rattle.flows.specs.Network.{Network, link, count, Connects}
use Rattle.flows.specs.Rows.{Leads, IsChain}
use Rattle.flows.proofs.Lists.{all_map}
use Rattle.network.specs.declared.Network as held
use Rattle.network.specs.Held.{link_at, model_of}
use Rattle.network.proofs.Model.{count_model, places_model, origin_model, destination_model, same_part}
use Rattle.statics.specs.Reach.{visits, Simple, Open}
use Rattle.statics.specs.Closed.{Separates}

pub record SameShape (N M : Network) : Type 0 where
  pub places : M.places ≡ N.places
  pub origin : M.origin ≡ N.origin
  pub destination : M.destination ≡ N.destination
  pub links : count M ≡ count N
  pub start : (e : ℕ) → (link M e).start ≡ (link N e).start
  pub end : (e : ℕ) → (link M e).end ≡ (link N e).end

-- two structs with the same ends of links hold such networks
pub same_ends : (net other : held.Network) → other.places ≡ net.places → other.origin ≡ net.origin
    → other.destination ≡ net.destination → other.count ≡ net.count
    → ((e : ℕ) → (link_at other e).start ≡ (link_at net e).start) → ((e : ℕ) → (link_at other e).end ≡ (link_at net e).end)
    → SameShape (model_of net) (model_of other)
same_ends net other p o d n s e =
    record {
      places = places_model other ∙ p ∙ sym (places_model net);
      origin = origin_model other ∙ o ∙ sym (origin_model net);
      destination = destination_model other ∙ d ∙ sym (destination_model net);
      links = count_model other ∙ n ∙ sym (count_model net);
      start = same_part net other n (λ l. l.start) s;
      end = same_part net other n (λ l. l.end) e;
    }

module _ {N M : Network} (same : SameShape N M) where
  same_leads : (es : List ℕ) (u w : ℕ) → Leads M u w es → Leads N u w es
  same_leads [] u w c = c
  same_leads (e ∷ es) u w c =
      (omega (arith, c.0, same.links), sym (same.start e) ∙ c.1, same_leads es (link N e).end w (rw (same.end e) at c.2))

  pub same_chain : (es : List ℕ) → IsChain M es → IsChain N es
  same_chain es c =
      let d : Leads M M.origin N.destination es = subst (λ (t : ℕ). Leads M M.origin t es) same.destination c in
      same_leads es N.origin N.destination (subst (λ (t : ℕ). Leads M t N.destination es) same.origin d)

  same_visits : (es : List ℕ) (w u : ℕ) → visits M w es u ≡ visits N w es u
  same_visits [] w u = refl
  same_visits (e ∷ es) w u =
      ap (λ (t : ℕ). only w u 1 + visits M t es u) (same.end e) ∙ ap (λ (t : ℕ). only w u 1 + t) (same_visits es (link N e).end u)

  pub same_simple : (es : List ℕ) → Simple M es → Simple N es
  same_simple es s u = omega (arith, s u, ap (λ (t : ℕ). visits M t es u) same.origin, same_visits es N.origin u)

  pub same_open : ((e : ℕ) → (link M e).capacity ≡ (link N e).capacity) → (es : List ℕ) → Open M es → Open N es
  same_open is es o = all_map (λ e. 1 ≤ (link M e).capacity) (λ e. 1 ≤ (link N e).capacity) es (λ e h. omega (arith, is e, h)) o

  pub same_connects : Connects N → Connects M
  same_connects c =
      record {
        origin_in = rw (same.origin, same.places) c.origin_in;
        destination_in = rw (same.destination, same.places) c.destination_in;
        apart = λ h. c.apart (sym same.destination ∙ h ∙ same.origin);
        start_in = λ e p. rw (same.start e, same.places) (c.start_in e (rw same.links at p));
        end_in = λ e p. rw (same.end e, same.places) (c.end_in e (rw same.links at p));
      }

  -- a set of places that no link with room leaves, where the links have the same room
  pub same_separates : (room other : ℕ → ℕ) (marks : List ℕ) → ((e : ℕ) → e < count N → other e ≡ room e)
      → Separates M other marks → Separates N room marks
  same_separates room other marks is s =
      record {
        holds = rw same.origin at s.holds;
        misses = rw same.destination at s.misses;
        closed = λ e p q r.
            rw (same.end e) at (s.closed e (rw same.links p) (rw (is e p) q) (rw (same.start e) r));
      }
