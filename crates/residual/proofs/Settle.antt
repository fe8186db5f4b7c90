-- Settling the nearest place that waits keeps Dijkstra's invariant, and a search that ends has what callers ask for: where the
-- destination was settled last, and where nothing waits. Assumes nothing.
use mathlib.Core.Path.{◌≡◌, sym, ap, ◌∙◌}
use mathlib.Core.Logic.{◌≢◌}
use mathlib.Core.Bool.{cond}
use mathlib.Core.List.{List}
use Prim.Native.Nat.{ℕ, ◌+◌, ◌≤◌, ◌<◌}
use native.Mathlib.Omega.{arith}
use native.Mathlib.Decide.{ℕ_discrete}
use lib.ListN.{get_or, set, length-set}
use lib.Seq.{get_or-set_same, get_or-set_other}
use lib.Dec.{eqb}
use borrow.Author.Tests.{eq-eqb, ne_eqb}
use Rattle.limits.specs.Limits.{most_places}
use Rattle.flows.specs.Sums.{sum}
use Rattle.flows.proofs.Sums.{sum_but}
use Rattle.flows.specs.Network.{Network}
use Rattle.residual.specs.Residual.{tail}
use Rattle.residual.specs.Tree.{far}
use Rattle.residual.specs.Relax.{}
use Rattle.residual.specs.declared.Labels.{Labels}
use Rattle.residual.proofs.Frontier.{waits, Entered, Eased, Frontier}

-- v is no longer waiting
abbrev pub rested : Labels → ℕ → Labels
rested L v = record { distance = L.distance; waiting = set L.waiting v far; arc = L.arc }

module _ (N : Network) (x π : List ℕ) (L : Labels) (R : List ℕ) (k u v : ℕ) (f : Frontier N x π L R k u) where
  -- a place whose waiting distance is not `far` waits
  pub open_waits : get_or L.waiting v 0 ≢ far → get_or R v 0 ≡ 0
  open_waits n = elim (ℕ_discrete (get_or R v 0) 0) [ yes e ↦ e | no h ↦ absurd (n (f.resting v (omega arith))) ]

  module _ (e : (a : ℕ) → tail N a ≡ u → Eased N x π L a) (i : v < N.places) (j : N.places ≤ most_places)
      (n : get_or L.waiting v 0 ≢ far) (l : (w : ℕ) → w < N.places → get_or L.waiting v 0 ≤ get_or L.waiting w 0) where
    zero_rank : get_or R v 0 ≡ 0
    zero_rank = open_waits n

    nearer : get_or L.distance v 0 < far
    nearer = let h : get_or L.distance v 0 ≢ far = λ h. n (f.waiting v i zero_rank ∙ h) in omega (arith, f.distance_most v)

    rank_new : get_or (set R v (k + 1)) v 0 ≡ k + 1
    rank_new = get_or-set_same R v (k + 1) 0 (omega (arith, f.ranks))

    rank_old : (w : ℕ) → w ≢ v → get_or (set R v (k + 1)) w 0 ≡ get_or R w 0
    rank_old w h = get_or-set_other R v w (k + 1) 0 h

    other : (w : ℕ) → 0 < get_or R w 0 → w ≢ v
    other w h q = let y : get_or R w 0 ≡ get_or R v 0 = ap (λ (z : ℕ). get_or R z 0) q in omega (arith, zero_rank)

    rank_kept : (w : ℕ) → 0 < get_or R w 0 → get_or (set R v (k + 1)) w 0 ≡ get_or R w 0
    rank_kept w h = rank_old w (other w h)

    -- a place is v, or has the rank that it had
    cases : {P : ℕ → Type 0} → P v → ((w : ℕ) → w ≢ v → get_or (set R v (k + 1)) w 0 ≡ get_or R w 0 → P w) → (w : ℕ) → P w
    cases p q w = elim (ℕ_discrete w v) [ yes h ↦ rw h p | no h ↦ q w h (rank_old w h) ]

    counts' : k + 1 + sum (waits (set R v (k + 1))) N.places ≡ N.places
    counts' =
        let a : waits R v ≡ 1 = rw (eq-eqb (get_or R v 0) 0 zero_rank) in
        let b : waits (set R v (k + 1)) v ≡ 0 = rw (rank_new, ne_eqb (k + 1) 0 (λ h. omega arith)) in
        let s = sum_but (waits R) (waits (set R v (k + 1))) v N.places i (λ w h d. ap (λ (y : ℕ). cond (eqb y 0) 1 0) (sym (rank_old w d))) in
        omega (arith, f.counts)

    entered' : (w : ℕ) → w < N.places → get_or L.distance w 0 < far → w ≢ N.origin
        → Entered N x π (rested L v) (set R v (k + 1)) w
    entered' w h d o =
        let q = f.entered w h d o in
        let r = rank_kept (tail N (get_or L.arc w 0)) q.settled in
        record {
          known = q.known;
          ends = q.ends;
          has_room = q.has_room;
          settled = omega (arith, r, q.settled);
          before =
              λ p. elim (ℕ_discrete w v) [
                | yes y ↦
                    let z : get_or (set R v (k + 1)) w 0 ≡ k + 1 = ap (λ (a : ℕ). get_or (set R v (k + 1)) a 0) y ∙ rank_new in
                    omega (arith, r, f.rank_most (tail N (get_or L.arc w 0)))
                | no y ↦ omega (arith, r, rank_old w y, q.before (omega (arith, rank_old w y)))
              ];
          step = q.step;
        }

    eased' : (a : ℕ) → 0 < get_or (set R v (k + 1)) (tail N a) 0 → tail N a ≢ v → Eased N x π L a
    eased' a h d =
        elim (ℕ_discrete (tail N a) u) [
          | yes y ↦ e a y
          | no y ↦ f.eased a (omega (arith, rank_old (tail N a) d)) y
        ]

    pub settle_frontier : Frontier N x π (rested L v) (set R v (k + 1)) (k + 1) v
    settle_frontier = record {
      ranks = length-set R v (k + 1) ∙ f.ranks;
      distances = f.distances;
      waitings = length-set L.waiting v far ∙ f.waitings;
      arcs = f.arcs;
      counts = counts';
      rank_most = cases (omega (arith, rank_new)) (λ w d q. omega (arith, f.rank_most w));
      rank_places = cases (λ h. i) (λ w d q h. f.rank_places w (omega arith));
      root = rank_kept N.origin (omega (arith, f.root)) ∙ f.root;
      root_distance = f.root_distance;
      current = omega (arith, rank_new);
      distance_most = f.distance_most;
      near = cases (λ h. omega arith) (λ w d q h. omega (arith, f.near w (omega arith), f.beyond v i zero_rank));
      beyond =
          cases (λ h z. omega (arith, rank_new))
          (λ w d q h z. omega (arith, l w h, f.waiting w h (sym q ∙ z), f.waiting v i zero_rank));
      turns = λ w h d. omega (arith, f.turns w h d);
      turn = omega (arith, f.turns v i nearer);
      waiting =
          cases (λ h z. absurd (omega (arith, rank_new)))
          (λ w d q h z. get_or-set_other L.waiting v w far 0 d ∙ f.waiting w h (sym q ∙ z));
      resting =
          cases (λ h. get_or-set_same L.waiting v far 0 (omega (arith, f.waitings)))
          (λ w d q h. get_or-set_other L.waiting v w far 0 d ∙ f.resting w (omega arith));
      entered = entered';
      eased = eased';
    }
