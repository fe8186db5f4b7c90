-- Either a chain of links with capacity of at least 1 leads to the archive, or no such link leaves some set of places with the origin and
-- without the archive: the set of places that chains reach grows by the end of a link that leaves it, and since ever fewer places are
-- outside that comes to an end. No flow brings a block out of such a set: as a cut, 0 inside and the horizon outside, it has the bound
-- 0. So without a chain nothing is delivered, whatever the horizon. Assumes nothing.
use mathlib.Core.Path.{◌≡◌, refl, sym, ap, ◌∙◌}
use mathlib.Core.Logic.{◌⊎◌, inl, inr}
use mathlib.Core.List.{List, [], ◌∷◌, ◌++◌}
use Prim.Native.Nat.{ℕ, zero, suc, ◌+◌, ◌-◌, ◌*◌, ◌≤◌, ◌<◌}
use native.Mathlib.Nat.{le_refl, mul-zero, zero-mul}
use native.Mathlib.Omega.{arith}
use native.Mathlib.Decide.{ℕ_discrete, dec_lt}
use lib.ListN.{length, set, replicate, length-set, length-replicate}
use lib.Seq.{get_or-set_same, get_or-set_other}
use Rattle.flows.specs.Clock.{counting}
use Rattle.flows.specs.Sums.{sum, only}
use Rattle.flows.specs.Network.{Network, link, count, Connects}
use Rattle.flows.specs.Flow.{IsFlow, delivered, Most}
use Rattle.flows.specs.Cut.{number, IsCut, counted, slack, bound}
use Rattle.flows.specs.Rows.{Leads}
use Rattle.flows.proofs.Sums.{sum_eq, sum_zero, sum_but, only_same, only_other, only_most, some_or_all}
use Rattle.flows.proofs.Lists.{all_append, get_or_zeros, listed, listed_length, listed_at}
use Rattle.flows.proofs.Cut.{counted_slack}
use Rattle.flows.proofs.Duality.{weak_duality}
use Rattle.flows.proofs.Nothing.{most_none}
use Rattle.statics.specs.Reach.{Open, Reachable}
use Rattle.statics.specs.Closed.{mark, Separates}

-- ---- a chain and one link more

leads_on : (N : Network) (es : List ℕ) (u w e : ℕ) → Leads N u w es → e < count N → (link N e).start ≡ w
    → Leads N u (link N e).end (es ++ (e ∷ []))
leads_on N [] u w e c p s = (p, s ∙ sym c, refl)
leads_on N (l ∷ es) u w e c p s = (c.0, c.1, leads_on N es (link N l).end w e c.2 p s)

-- ---- the places that chains reach

-- a chain of links with capacity of at least 1 leads from the origin to the place u
record Reached (N : Network) (u : ℕ) : Type 0 where
  chain : List ℕ
  leads : Leads N N.origin u chain
  opens : Open N chain

-- a set with the origin, of places that chains reach
record Grown (N : Network) (marks : List ℕ) : Type 0 where
  size : length marks ≡ N.places
  holds : 0 < mark marks N.origin
  reached : (u : ℕ) → 0 < mark marks u → Reached N u

-- a link with capacity that leaves the set
record Leaving (N : Network) (marks : List ℕ) : Type 0 where
  number : ℕ
  known : number < count N
  opens : 1 ≤ (link N number).capacity
  from : 0 < mark marks (link N number).start
  to : mark marks (link N number).end ≡ 0

-- a set of places with the origin and without the destination, that no link with capacity leaves
abbrev pub Separated : Network → Type 0
Separated N = (marks : List ℕ) × Separates N (λ e. (link N e).capacity) marks

-- how many places are outside
abbrev outside : Network → List ℕ → ℕ
outside N marks = sum (λ u. 1 - mark marks u) N.places

-- the link e does not leave the set
abbrev Stays : Network → List ℕ → ℕ → Type 0
Stays N marks e = 0 < (link N e).capacity → 0 < mark marks (link N e).start → 0 < mark marks (link N e).end

leaves_or_stays : (N : Network) (marks : List ℕ) (e : ℕ) → e < count N → Leaving N marks ⊎ Stays N marks e
leaves_or_stays N marks e p =
    elim (dec_lt 0 (link N e).capacity) [
      | no shut ↦ inr (λ o. absurd (shut o))
      | yes o ↦ elim (dec_lt 0 (mark marks (link N e).start)) [
        | no away ↦ inr (λ i f. absurd (away f))
        | yes f ↦ elim (dec_lt 0 (mark marks (link N e).end)) [
          | yes t ↦ inr (λ i j. t)
          | no t ↦ inl record { number = e; known = p; opens = o; from = f; to = omega arith }
        ]
      ]
    ]

-- the origin alone
module _ {N : Network} (connects : Connects N) where
  alone : List ℕ
  alone = set (replicate N.places 0) N.origin 1

  grown_alone : Grown N alone
  unfolding alone
  grown_alone =
      let n : length (replicate {A = ℕ} N.places 0) ≡ N.places = length-replicate {A = ℕ} N.places 0 in
      record {
        size = length-set (replicate N.places 0) N.origin 1 ∙ n;
        holds = omega (arith, get_or-set_same {A = ℕ} (replicate N.places 0) N.origin 1 0 (omega (arith, connects.origin_in)));
        reached = λ u p. elim (ℕ_discrete u N.origin) [
          | yes h ↦ record { chain = []; leads = sym h; opens = tt }
          | no h ↦ absurd (omega (arith, get_or-set_other {A = ℕ} (replicate N.places 0) N.origin u 1 0 h, get_or_zeros N.places u))
        ];
      }

  -- and the end of a link that leaves the set
  module _ {marks : List ℕ} (grown : Grown N marks) (l : Leaving N marks) where
    abbrev end : ℕ
    end = (link N l.number).end

    inside : end < length marks
    inside = omega (arith, grown.size, connects.end_in l.number l.known)

    grown_on : Grown N (set marks end 1)
    grown_on =
        record {
          size = length-set marks end 1 ∙ grown.size;
          holds = elim (ℕ_discrete N.origin end) [
            | yes h ↦ omega (arith, ap (mark (set marks end 1)) h, get_or-set_same marks end 1 0 inside)
            | no h ↦ rw (get_or-set_other marks end N.origin 1 0 h) grown.holds
          ];
          reached = λ u p. elim (ℕ_discrete u end) [
            | yes h ↦
                let r = grown.reached (link N l.number).start l.from in
                record {
                  chain = r.chain ++ (l.number ∷ []);
                  leads = rw h (leads_on N r.chain N.origin (link N l.number).start l.number r.leads l.known refl);
                  opens = all_append (λ e. 1 ≤ (link N e).capacity) r.chain (l.number ∷ []) r.opens (l.opens, tt);
                }
            | no h ↦ grown.reached u (rw (get_or-set_other marks end u 1 0 h) at p)
          ];
        }

    -- leaves one place less outside
    fewer : outside N marks ≡ outside N (set marks end 1) + 1
    fewer =
        omega (
          arith,
          sum_but (λ u. 1 - mark marks u) (λ u. 1 - mark (set marks end 1) u) end N.places (connects.end_in l.number l.known)
              (λ u p h. rw (get_or-set_other marks end u 1 0 h)),
          l.to,
          get_or-set_same marks end 1 0 inside,
        )

  -- a set that no link leaves holds the destination, or separates it
  decides : (marks : List ℕ) → Grown N marks → ((e : ℕ) → e < count N → Stays N marks e) → Reachable N ⊎ Separated N
  decides marks grown closed =
      elim (dec_lt 0 (mark marks N.destination)) [
        | yes p ↦ let r = grown.reached N.destination p in inl record { chain = r.chain; leads = r.leads; opens = r.opens }
        | no p ↦ inr (marks, record { holds = grown.holds; misses = omega arith; closed = closed })
      ]

  grow : (fuel : ℕ) (marks : List ℕ) → Grown N marks → outside N marks ≤ fuel → Reachable N ⊎ Separated N
  grow zero marks grown p =
      elim (some_or_all (count N) (leaves_or_stays N marks)) [
        | inl l ↦ absurd (omega (arith, fewer grown l))
        | inr closed ↦ decides marks grown closed
      ]
  grow (suc fuel) marks grown p =
      elim (some_or_all (count N) (leaves_or_stays N marks)) [
        | inl l ↦ grow fuel (set marks (link N l.number).end 1) (grown_on grown l) (omega (arith, fewer grown l))
        | inr closed ↦ decides marks grown closed
      ]

  pub reachable_or_separated : Reachable N ⊎ Separated N
  reachable_or_separated = grow (outside N alone) alone grown_alone (le_refl _)

-- ---- no flow leaves a set that no link with capacity leaves

module _ {N : Network} (connects : Connects N) {marks : List ℕ} (separates : Separates N (λ e. (link N e).capacity) marks) (H : ℕ) where
  -- 0 inside, and outside as many slots as count
  abbrev side : ℕ → ℕ
  side u = only (mark marks u) 0 (counting H)

  side_inside : (u : ℕ) → 0 < mark marks u → side u ≡ 0
  side_inside u p = only_other (mark marks u) 0 (counting H) (λ z. omega arith)

  side_outside : (u : ℕ) → mark marks u ≡ 0 → side u ≡ counting H
  side_outside u z = ap (λ (m : ℕ). only m 0 (counting H)) z ∙ only_same 0 (counting H)

  sides : List ℕ
  sides = listed side N.places

  sides_at : (u : ℕ) → u < N.places → number sides u ≡ side u
  unfolding sides
  sides_at u p = listed_at side N.places u p

  sides_cut : IsCut N H sides
  unfolding sides
  sides_cut =
      record {
        size = listed_length side N.places;
        at_origin = sides_at N.origin connects.origin_in ∙ side_inside N.origin separates.holds;
        at_destination = sides_at N.destination connects.destination_in ∙ side_outside N.destination separates.misses;
        at_most = λ u p. omega (arith, sides_at u p, only_most (mark marks u) 0 (counting H));
      }

  -- a link with capacity does not lead up
  level : (e : ℕ) → e < count N → (link N e).capacity * counted (slack N sides e) ≡ 0
  level e p =
      let s : ℕ = (link N e).start in
      let t : ℕ = (link N e).end in
      let from = sides_at s (connects.start_in e p) in
      let to = sides_at t (connects.end_in e p) in
      let flat : 0 < (link N e).capacity → counted (slack N sides e) ≡ 0 = λ o.
      elim (dec_lt 0 (mark marks s)) [
        | yes q ↦ omega (arith, counted_slack N sides e, to, side_inside t (separates.closed e p o q))
        | no q ↦ omega (arith, counted_slack N sides e, from, to, side_outside s (omega arith), only_most (mark marks t) 0 (counting H))
      ] in
      elim (dec_lt 0 (link N e).capacity) [
        | yes o ↦ ap (λ (n : ℕ). (link N e).capacity * n) (flat o) ∙ mul-zero (link N e).capacity
        | no o ↦
            let z : (link N e).capacity ≡ 0 = omega arith in
            ap (λ (n : ℕ). n * counted (slack N sides e)) z ∙ zero-mul (counted (slack N sides e))
      ]

  pub separated_delivers_none : (f : ℕ → ℕ → ℕ) → IsFlow N H f → delivered N H f ≡ 0
  unfolding bound
  separated_delivers_none f flow =
      omega (arith, weak_duality connects flow sides_cut, sum_eq (count N) level, sum_zero (count N))

-- ---- no chain, nothing delivered

module _ {N : Network} (connects : Connects N) (unreachable : Reachable N → ⊥) (H : ℕ) where
  pub unreachable_delivers_none : (f : ℕ → ℕ → ℕ) → IsFlow N H f → delivered N H f ≡ 0
  unreachable_delivers_none f flow =
      elim (reachable_or_separated connects) [
        | inl r ↦ absurd (unreachable r)
        | inr s ↦ separated_delivers_none connects s.1 H f flow
      ]

  pub unreachable_most_none : Most N H 0
  unreachable_most_none = most_none N H unreachable_delivers_none
