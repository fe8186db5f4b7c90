-- Dijkstra's invariant: what holds of a search when the place u was settled last. It is kept when u's arcs are relaxed, by cases on
-- whether a place's labels were lowered, and when the nearest place that waits is settled. Assumes nothing.
use mathlib.Core.Path.{◌≡◌, sym, ap, ◌∙◌}
use mathlib.Core.Logic.{◌≢◌, ⊎_elim}
use mathlib.Core.Bool.{cond}
use mathlib.Core.List.{List}
use Prim.Native.Nat.{ℕ, ◌+◌, ◌*◌, ◌≤◌, ◌<◌}
use native.Mathlib.Omega.{arith}
use lib.ListN.{length, get_or}
use lib.Dec.{eqb}
use borrow.Author.Tests.{lt-ltb}
use Rattle.limits.specs.Limits.{most_places, most_transit}
use Rattle.flows.specs.Sums.{sum}
use Rattle.flows.specs.Network.{Network, count}
use Rattle.flows.specs.Cut.{number, counted}
use Rattle.residual.specs.Residual.{link_of, tail, head, room, reduced_cost, arc_cost}
use Rattle.residual.specs.Tree.{far}
use Rattle.residual.specs.Relax.{Side, OnChain, head_on, price, room_at, Relaxable, Kept, Lowered, Relaxing, Relaxed, parity}
use Rattle.residual.specs.declared.Labels.{Labels}

-- 1 for a place that was not settled
abbrev pub waits : List ℕ → ℕ → ℕ
waits R v = cond (eqb (get_or R v 0) 0) 1 0

-- how a place was reached: its rank is that of no settled place before it
pub record Entered (N : Network) (x π : List ℕ) (L : Labels) (R : List ℕ) (v : ℕ) : Type 0 where
  pub known : link_of (get_or L.arc v 0) < count N
  pub ends : head N (get_or L.arc v 0) ≡ v
  pub has_room : 0 < room N x (get_or L.arc v 0)
  pub settled : 0 < get_or R (tail N (get_or L.arc v 0)) 0
  pub before : 0 < get_or R v 0 → get_or R (tail N (get_or L.arc v 0)) 0 < get_or R v 0
  pub step : get_or L.distance v 0 ≡ get_or L.distance (tail N (get_or L.arc v 0)) 0 + arc_cost N π (get_or L.arc v 0)

-- no arc with room leads from the place of arc a's tail to a shorter way
abbrev pub Eased : Network → List ℕ → List ℕ → Labels → ℕ → Type 0
Eased N x π L a =
    link_of a < count N → 0 < room N x a → get_or L.distance (head N a) 0 ≤ get_or L.distance (tail N a) 0 + arc_cost N π a

pub record Frontier (N : Network) (x π : List ℕ) (L : Labels) (R : List ℕ) (k u : ℕ) : Type 0 where
  pub ranks : length R ≡ most_places
  pub distances : length L.distance ≡ most_places
  pub waitings : length L.waiting ≡ most_places
  pub arcs : length L.arc ≡ most_places
  pub counts : k + sum (waits R) N.places ≡ N.places
  pub rank_most : (v : ℕ) → get_or R v 0 ≤ k
  pub rank_places : (v : ℕ) → 0 < get_or R v 0 → v < N.places
  pub root : get_or R N.origin 0 ≡ 1
  pub root_distance : get_or L.distance N.origin 0 ≡ 0
  pub current : 0 < get_or R u 0
  pub distance_most : (v : ℕ) → get_or L.distance v 0 ≤ far
  pub near : (v : ℕ) → 0 < get_or R v 0 → get_or L.distance v 0 ≤ get_or L.distance u 0
  pub beyond : (v : ℕ) → v < N.places → get_or R v 0 ≡ 0 → get_or L.distance u 0 ≤ get_or L.distance v 0
  -- a place's distance and potential together are the transits of the path to it, which is no longer than places were settled
  pub turns : (v : ℕ) → v < N.places → get_or L.distance v 0 < far → get_or L.distance v 0 + number π v ≤ k * most_transit
  pub turn : get_or L.distance u 0 + number π u + most_transit ≤ k * most_transit
  pub waiting : (v : ℕ) → v < N.places → get_or R v 0 ≡ 0 → get_or L.waiting v 0 ≡ get_or L.distance v 0
  pub resting : (v : ℕ) → 0 < get_or R v 0 → get_or L.waiting v 0 ≡ far
  pub entered : (v : ℕ) → v < N.places → get_or L.distance v 0 < far → v ≢ N.origin → Entered N x π L R v
  pub eased : (a : ℕ) → 0 < get_or R (tail N a) 0 → tail N a ≢ u → Eased N x π L a

-- what a side of the residual network at u is, in the network's terms
pub record ArcOf (N : Network) (x π : List ℕ) (S : Side) (u e : ℕ) : Type 0 where
  pub known : e < count N
  pub numbered : link_of (2 * e + parity S.direction) ≡ e
  pub leaves : tail N (2 * e + parity S.direction) ≡ u
  pub leads : head_on S e ≡ head N (2 * e + parity S.direction)
  pub roomy : room_at S e ≡ room N x (2 * e + parity S.direction)
  pub priced : price S e ≡ reduced_cost N π (2 * e + parity S.direction)
  pub short : 0 < room N x (2 * e + parity S.direction)
      → number π (head N (2 * e + parity S.direction)) + arc_cost N π (2 * e + parity S.direction) ≤ number π u + most_transit
  pub relaxable : Relaxable S e

pub record SideOf (N : Network) (x π : List ℕ) (S : Side) (first u : ℕ) : Type 0 where
  pub here : S.place ≡ u
  pub potential : S.potential ≡ π
  pub arcs : (e : ℕ) → OnChain S.next first e → ArcOf N x π S u e
  pub all : (e : ℕ) → e < count N → tail N (2 * e + parity S.direction) ≡ u → OnChain S.next first e

-- ---- relaxing

-- what relaxing asks for
pub relaxing_of : (N : Network) (x π : List ℕ) (L : Labels) (R : List ℕ) (k u first : ℕ) (S : Side) → N.places ≤ most_places
    → Frontier N x π L R k u → SideOf N x π S first u → Relaxing S first L
relaxing_of N x π L R k u first S j f s = record {
  distances = f.distances;
  waitings = f.waitings;
  arcs = f.arcs;
  place_in = omega (arith, s.here, f.rank_places u f.current);
  each = λ e c. (s.arcs e c).relaxable;
  distance_most = f.distance_most;
  place_most =
      rw (s.here, s.potential) (omega (arith, f.turn, f.counts));
}

module _ (N : Network) (x π : List ℕ) (L M : Labels) (R : List ℕ) (k u first : ℕ) (S : Side)
    (f : Frontier N x π L R k u) (s : SideOf N x π S first u) (r : Relaxed S first L M) where
  price_cost : (e : ℕ) → OnChain S.next first e → counted (price S e) ≡ arc_cost N π (2 * e + parity S.direction)
  unfolding arc_cost
  price_cost e h = ap counted (s.arcs e h).priced

  base : get_or L.distance S.place 0 ≡ get_or L.distance u 0
  base = ap (λ (v : ℕ). get_or L.distance v 0) s.here

  -- the labels of settled places are as they were
  stays : (v : ℕ) → 0 < get_or R v 0 → Kept L M v
  stays v h =
      ⊎_elim (λ p. p) (λ p. absurd (omega (arith, p.distance, p.lower, base, f.near v h))) (r.label v)

  falls : (v : ℕ) → get_or M.distance v 0 ≤ get_or L.distance v 0
  falls v = ⊎_elim (λ p. omega (arith, p.distance)) (λ p. omega (arith, p.lower)) (r.label v)

  pub same : get_or M.distance u 0 ≡ get_or L.distance u 0
  same = (stays u f.current).distance

  beyond' : (v : ℕ) → v < N.places → get_or R v 0 ≡ 0 → get_or M.distance u 0 ≤ get_or M.distance v 0
  beyond' v h z =
      ⊎_elim (λ p. omega (arith, same, p.distance, f.beyond v h z)) (λ p. omega (arith, same, p.distance, base)) (r.label v)

  turns' : (v : ℕ) → v < N.places → get_or M.distance v 0 < far → get_or M.distance v 0 + number π v ≤ k * most_transit
  turns' v i h =
      ⊎_elim (λ p. omega (arith, p.distance, f.turns v i (omega (arith, p.distance))))
      (λ p.
      let o = s.arcs p.link p.listed in
      let to : number π (head N (2 * p.link + parity S.direction)) ≡ number π v = ap (number π) (sym o.leads ∙ p.leads) in
      omega (arith, p.distance, base, f.turn, price_cost p.link p.listed, o.short (omega (arith, o.roomy, p.roomy))))
      (r.label v)

  waiting' : (v : ℕ) → v < N.places → get_or R v 0 ≡ 0 → get_or M.waiting v 0 ≡ get_or M.distance v 0
  waiting' v h z = ⊎_elim (λ p. p.waiting ∙ f.waiting v h z ∙ sym p.distance) (λ p. p.waiting) (r.label v)

  kept_entered : (v : ℕ) → Kept L M v → Entered N x π L R v → Entered N x π M R v
  kept_entered v p o = record {
    known = rw p.arc o.known;
    ends = rw p.arc o.ends;
    has_room = rw p.arc o.has_room;
    settled = rw p.arc o.settled;
    before = rw p.arc o.before;
    step = rw p.arc (omega (arith, o.step, p.distance, (stays (tail N (get_or L.arc v 0)) o.settled).distance));
  }

  lowered_entered : (v : ℕ) → Lowered S first L M v → Entered N x π M R v
  lowered_entered v p =
      let o = s.arcs p.link p.listed in
      record {
        known = rw (p.arc, o.numbered) o.known;
        ends = rw p.arc (sym o.leads ∙ p.leads);
        has_room = rw p.arc (omega (arith, o.roomy, p.roomy));
        settled = rw (p.arc, o.leaves) f.current;
        before = λ h. absurd (omega (arith, p.lower, (stays v h).distance));
        step = rw (p.arc, o.leaves) (omega (arith, p.distance, base, same, price_cost p.link p.listed));
      }

  -- every arc of the side at u is relaxed
  pub side_eased : (e : ℕ) → tail N (2 * e + parity S.direction) ≡ u → link_of (2 * e + parity S.direction) ≡ e → Eased N x π M (2 * e + parity S.direction)
  side_eased e t l h j =
      let i : OnChain S.next first e = s.all e (rw l at h) t in
      let o = s.arcs e i in
      let d : get_or M.distance (head_on S e) 0 ≡ get_or M.distance (head N (2 * e + parity S.direction)) 0 =
      ap (λ (v : ℕ). get_or M.distance v 0) o.leads in
      let q : 0 < room_at S e = omega (arith, o.roomy) in
      rw t
      (omega (arith, d, same, base, price_cost e i, rw (lt-ltb 0 (room_at S e) q) at (r.done e i)))

  -- what was relaxed stays so
  pub still_eased : (a : ℕ) → 0 < get_or R (tail N a) 0 → Eased N x π L a → Eased N x π M a
  still_eased a p e h j = omega (arith, e h j, falls (head N a), (stays (tail N a) p).distance)

  pub relax_frontier : Frontier N x π M R k u
  relax_frontier = record {
    ranks = f.ranks;
    distances = r.distances ∙ f.distances;
    waitings = r.waitings ∙ f.waitings;
    arcs = r.arcs ∙ f.arcs;
    counts = f.counts;
    rank_most = f.rank_most;
    rank_places = f.rank_places;
    root = f.root;
    root_distance = (stays N.origin (omega (arith, f.root))).distance ∙ f.root_distance;
    current = f.current;
    distance_most = λ v. omega (arith, falls v, f.distance_most v);
    near = λ v h. omega (arith, (stays v h).distance, same, f.near v h);
    beyond = beyond';
    turns = turns';
    turn = omega (arith, same, f.turn);
    waiting = waiting';
    resting = λ v h. (stays v h).waiting ∙ f.resting v h;
    entered =
        λ v h d n. ⊎_elim (λ p. kept_entered v p (f.entered v h (omega (arith, p.distance)) n)) (lowered_entered v) (r.label v);
    eased = λ a h n. still_eased a h (f.eased a h n);
  }
