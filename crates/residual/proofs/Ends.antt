-- A search begins with Dijkstra's invariant, with the origin settled and nothing else reached; and what it has when it ends is what
-- callers ask for: where the destination was settled last, and where nothing waits. Assumes nothing.
use mathlib.Core.Path.{◌≡◌, refl, sym, ap, ◌∙◌}
use mathlib.Core.Logic.{◌≢◌}
use mathlib.Core.Bool.{Bool, true, false, cond}
use mathlib.Core.List.{List}
use Prim.Native.Nat.{ℕ, zero, suc, ◌+◌, ◌*◌, ◌≤◌, ◌<◌}
use native.Mathlib.Omega.{arith}
use native.Mathlib.Decide.{ℕ_discrete, dec_lt}
use lib.ListN.{get_or, set, replicate, length-set, length-replicate, get_or-replicate, get_or-eq_default}
use lib.Seq.{get_or-set_same, get_or-set_other}
use lib.Dec.{eqb}
use Rattle.limits.specs.Limits.{most_places, most_transit}
use Rattle.flows.specs.Sums.{sum}
use Rattle.flows.specs.Network.{Network, count, Connects}
use Rattle.flows.specs.Cut.{number}
use Rattle.flows.proofs.Sums.{sum_but}
use Rattle.flows.proofs.Lists.{get_or_zeros}
use Rattle.residual.specs.declared.Tree.{Tree}
use Rattle.residual.specs.Residual.{link_of, tail, head, room, arc_cost}
use Rattle.residual.specs.Tree.{far, Reached, Searched}
use Rattle.residual.specs.Relax.{}
use Rattle.residual.specs.declared.Labels.{Labels}
use Rattle.residual.proofs.Arcs.{tail_in, head_in}
use Rattle.residual.proofs.Frontier.{waits, Eased, Frontier}

-- ---- the beginning

abbrev pub begun : ℕ → Labels
begun o = record { distance = set (replicate 64 far) o 0; waiting = replicate 64 far; arc = replicate 64 0 }

abbrev pub begun_rank : ℕ → List ℕ
begun_rank o = set (replicate 64 0) o 1

get_or_fars : (n v : ℕ) → get_or (replicate n far) v 0 ≤ far
get_or_fars n v = elim (dec_lt v n) [
  | yes h ↦ omega (arith, get_or-replicate n v far 0 h)
  | no h ↦ omega (arith, get_or-eq_default (replicate n far) 0 {n = v} (omega (arith, length-replicate n far)))
]

sum_zeros : (n : ℕ) → sum (waits (replicate 64 0)) n ≡ n
sum_zeros zero = refl
sum_zeros (suc n) = rw (sum_zeros n, get_or_zeros 64 n) (omega arith)

module _ (N : Network) (x π : List ℕ) (h : N.origin < N.places) (j : N.places ≤ most_places) (b : number π N.origin ≡ 0) where
  abbrev o : ℕ
  o = N.origin

  rank_origin : get_or (begun_rank o) o 0 ≡ 1
  rank_origin = get_or-set_same (replicate 64 0) N.origin 1 0 (omega (arith, length-replicate {A = ℕ} 64 0))

  rank_other : (v : ℕ) → v ≢ o → get_or (begun_rank o) v 0 ≡ 0
  rank_other v n = get_or-set_other (replicate 64 0) o v 1 0 n ∙ get_or_zeros 64 v

  distance_origin : get_or (begun o).distance o 0 ≡ 0
  distance_origin = get_or-set_same (replicate 64 far) N.origin 0 0 (omega (arith, length-replicate 64 far))

  distance_other : (v : ℕ) → v ≢ o → get_or (begun o).distance v 0 ≡ get_or (replicate 64 far) v 0
  distance_other v n = get_or-set_other (replicate 64 far) o v 0 0 n

  -- a place is the origin, or has neither rank nor distance
  cases : {P : ℕ → Type 0} → P o
      → ((v : ℕ) → v ≢ o → get_or (begun_rank o) v 0 ≡ 0 → get_or (begun o).distance v 0 ≡ get_or (replicate 64 far) v 0 → P v) → (v : ℕ) → P v
  cases p q v = elim (ℕ_discrete v o) [ yes e ↦ rw e p | no n ↦ q v n (rank_other v n) (distance_other v n) ]

  counts' : 1 + sum (waits (begun_rank o)) N.places ≡ N.places
  counts' =
      let a : waits (replicate 64 0) o ≡ 1 = rw (get_or_zeros 64 o) in
      let b : waits (begun_rank o) o ≡ 0 = ap (λ (y : ℕ). cond (eqb y 0) 1 0) rank_origin in
      let s =
      sum_but (waits (replicate 64 0)) (waits (begun_rank o)) o N.places h
      (λ w i d. ap (λ (y : ℕ). cond (eqb y 0) 1 0) (get_or_zeros 64 w ∙ sym (rank_other w d))) in
      omega (arith, sum_zeros N.places)

  pub begin_frontier : Frontier N x π (begun N.origin) (begun_rank N.origin) 1 N.origin
  begin_frontier = record {
    ranks = length-set {A = ℕ} (replicate 64 0) o 1 ∙ length-replicate {A = ℕ} 64 0;
    distances = length-set (replicate 64 far) o 0 ∙ length-replicate 64 far;
    waitings = length-replicate 64 far;
    arcs = length-replicate {A = ℕ} 64 0;
    counts = counts';
    rank_most = cases (omega (arith, rank_origin)) (λ v n r d. omega arith);
    rank_places = cases (λ p. h) (λ v n r d p. absurd (omega arith));
    root = rank_origin;
    root_distance = distance_origin;
    current = omega (arith, rank_origin);
    distance_most = cases (omega (arith, distance_origin)) (λ v n r d. omega (arith, get_or_fars 64 v));
    near = cases (λ p. omega arith) (λ v n r d p. absurd (omega arith));
    beyond = λ v i z. omega (arith, distance_origin);
    turns =
        cases (λ i p. omega (arith, distance_origin, b))
        (λ v n r d i p. absurd (omega (arith, get_or-replicate 64 v far 0 (omega arith))));
    turn = omega (arith, distance_origin, b);
    waiting = cases (λ i z. absurd (omega (arith, rank_origin))) (λ v n r d i z. sym d);
    resting = cases (λ p. get_or-replicate 64 o far 0 (omega arith)) (λ v n r d p. absurd (omega arith));
    entered =
        cases (λ i p n. absurd (n refl)) (λ v n r d i p m. absurd (omega (arith, get_or-replicate 64 v far 0 (omega arith))));
    eased = λ a p n. absurd (omega (arith, rank_other (tail N a) n));
  }

-- ---- the end

abbrev pub tree_of : Labels → List ℕ → ℕ → Bool → Tree
tree_of L R reach found = record { distance = L.distance; arc = L.arc; rank = R; reach = reach; found = found }

module _ (N : Network) (x π : List ℕ) (L : Labels) (R : List ℕ) (k u : ℕ) (c : Connects N) (j : N.places ≤ most_places)
    (f : Frontier N x π L R k u) where
  pub few : k ≤ N.places
  few = omega (arith, f.counts)

  settled_near : (v : ℕ) → 0 < get_or R v 0 → get_or L.distance v 0 < far
  settled_near v h = omega (arith, f.near v h, f.turn, few)

  settled_short : (v : ℕ) → 0 < get_or R v 0 → get_or L.distance v 0 + number π v ≤ k * most_transit
  settled_short v h = f.turns v (f.rank_places v h) (settled_near v h)

  reached_of : (reach : ℕ) (found : Bool) (v : ℕ) → 0 < get_or R v 0 → v ≢ N.origin → Reached N x π (tree_of L R reach found) v
  reached_of reach found v h n =
      let o = f.entered v (f.rank_places v h) (settled_near v h) n in
      record {
        known = o.known;
        ends = o.ends;
        has_room = o.has_room;
        settled = o.settled;
        before = o.before h;
        step = o.step;
      }

  -- the destination was settled last
  pub found_searched : u ≡ N.destination → Searched N x π (tree_of L R (get_or L.distance N.destination 0) true)
  found_searched e =
      let d : get_or L.distance u 0 ≡ get_or L.distance N.destination 0 = ap (λ (v : ℕ). get_or L.distance v 0) e in
      let r : get_or R u 0 ≡ get_or R N.destination 0 = ap (λ (v : ℕ). get_or R v 0) e in
      record {
        ranks = f.ranks;
        distances = f.distances;
        arcs = f.arcs;
        rank_most = λ v. omega (arith, f.rank_most v, few);
        rank_places = f.rank_places;
        root = f.root;
        root_distance = f.root_distance;
        reached = reached_of (get_or L.distance N.destination 0) true;
        near = λ v h. omega (arith, f.near v h);
        short = λ v h. omega (arith, settled_short v h, few);
        reach_at = refl;
        capped =
            λ a i p. elim (ℕ_discrete (get_or R (tail N a) 0) 0) [
              | yes z ↦ omega (arith, f.beyond (tail N a) (tail_in N c a i) z)
              | no z ↦
                  elim (ℕ_discrete (tail N a) u) [
                    | yes y ↦
                        let t : get_or L.distance (tail N a) 0 ≡ get_or L.distance u 0 = ap (λ (v : ℕ). get_or L.distance v 0) y in
                        omega arith
                    | no y ↦ omega (arith, f.eased a (omega arith) y i p)
                  ]
            ];
        found = λ _. omega (arith, f.current);
        lost = λ q. absurd (let z : ◌≡◌ {A = ℕ} 0 1 = cc in omega arith);
        closed = λ q. absurd (let z : ◌≡◌ {A = ℕ} 0 1 = cc in omega arith);
      }

  -- nothing waits, and the destination was not settled
  pub lost_searched : ((a : ℕ) → link_of a < count N → 0 < room N x a → number π (head N a) + arc_cost N π a ≤ number π (tail N a) + most_transit)
      → get_or R N.destination 0 ≡ 0
      → ((a : ℕ) → tail N a ≡ u → Eased N x π L a)
      → ((v : ℕ) → v < N.places → far ≤ get_or L.waiting v 0) → Searched N x π (tree_of L R far false)
  lost_searched m z e l =
      record {
        ranks = f.ranks;
        distances = f.distances;
        arcs = f.arcs;
        rank_most = λ v. omega (arith, f.rank_most v, few);
        rank_places = f.rank_places;
        root = f.root;
        root_distance = f.root_distance;
        reached = reached_of far false;
        near = λ v h. f.distance_most v;
        short = λ v h. omega (arith, settled_short v h, few);
        reach_at = unreached N.destination c.destination_in z;
        capped =
            λ a i p. elim (ℕ_discrete (get_or R (tail N a) 0) 0) [
              | yes q ↦ omega (arith, unreached (tail N a) (tail_in N c a i) q)
              | no q ↦ omega (arith, all_eased a (omega arith) i p)
            ];
        found = λ q. absurd (let y : ◌≡◌ {A = ℕ} 0 1 = cc in omega arith);
        lost = λ _. (z, refl);
        closed =
            λ _ a i p s. elim (ℕ_discrete (get_or R (head N a) 0) 0) [
              | yes q ↦ absurd (omega (arith, unreached (head N a) (head_in N c a i) q, all_eased a s i p, settled_short (tail N a) s, m a i p, few))
              | no q ↦ omega arith
            ];
      }
    where
      unreached : (v : ℕ) → v < N.places → get_or R v 0 ≡ 0 → get_or L.distance v 0 ≡ far
      unreached v h q = omega (arith, f.waiting v h q, l v h, f.distance_most v)

      all_eased : (a : ℕ) → 0 < get_or R (tail N a) 0 → Eased N x π L a
      all_eased a h = elim (ℕ_discrete (tail N a) u) [ yes y ↦ e a y | no y ↦ f.eased a h y ]
