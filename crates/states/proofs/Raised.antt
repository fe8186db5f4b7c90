-- A raise by a search's distances, capped at no more than its reach, keeps the invariant; raised by the whole reach, the tree's arcs
-- are tight: what a search says of its arcs is what the law of raised potentials asks of distances. Assumes nothing.
use mathlib.Core.Path.{◌≡◌, refl, sym, ap, ◌∙◌}
use mathlib.Core.Logic.{◌⊎◌, inl, inr}
use mathlib.Core.Bool.{true}
use mathlib.Core.List.{List, [], ◌∷◌}
use Prim.Native.Nat.{ℕ, zero, suc, ◌+◌, ◌-◌, ◌*◌, ◌≤◌, ◌<◌, min}
use native.Mathlib.Omega.{arith}
use lib.ListN.{length, get_or, set}
use Rattle.limits.specs.Limits.{most_places, most_cut_number}
use Rattle.flows.specs.Network.{Network, link, Connects}
use Rattle.flows.specs.Cut.{number}
use Rattle.statics.specs.Potentials.{Tight, Distances, Raised}
use Rattle.statics.proofs.Raise.{raised_destination, raised_tight}
use Rattle.statics.proofs.PrimalDual.{raise}
use Rattle.residual.specs.declared.Tree.{Tree}
use Rattle.residual.specs.Residual.{link_of, tail}
use Rattle.residual.specs.Tree.{rank, arc, distance, Reached, Searched}
use Rattle.states.specs.declared.State.{State}
use Rattle.states.specs.State.{Sound, raised, TightTree}
use Rattle.states.specs.Steps.{level, raised_by, spliced}
use Rattle.states.proofs.Splice.{spliced_step}
use Rattle.residual.proofs.Arcs.{Along, goes_along, tail_along, head_along, room_along, arc_cases}
use Rattle.residual.proofs.Arcs.{Against, goes_against, tail_against, head_against, room_against}
use Rattle.residual.proofs.Costs.{cost_along, cost_against, exact_along, exact_against}

abbrev made : List ℕ → ℕ → List ℕ → State
made x v π = record { flow = x; value = v; potential = π }

-- states are equal by their fields
pub same_state : (r s : State) → r.flow ≡ s.flow → r.value ≡ s.value → r.potential ≡ s.potential → r ≡ s
same_state r s f v p =
    ap (λ (x : List ℕ). made x r.value r.potential) f
    ∙ ap (λ (n : ℕ). made s.flow n r.potential) v
    ∙ ap (λ (π : List ℕ). made s.flow s.value π) p

pub length_raised : (δ : ℕ) (π ds : List ℕ) → length (raised δ π ds) ≡ length π
unfolding raised
length_raised δ [] ds = refl
length_raised δ (p ∷ π) [] = refl
length_raised δ (p ∷ π) (d ∷ ds) = ap suc (length_raised δ π ds)

pub number_raised : (δ : ℕ) (π ds : List ℕ) → length ds ≡ length π → (v : ℕ)
    → number (raised δ π ds) v ≡ number π v + min (get_or ds v 0) δ
unfolding raised
number_raised δ [] [] h v = omega arith
number_raised δ [] (d ∷ ds) h v = absurd (omega arith)
number_raised δ (p ∷ π) [] h v = absurd (omega arith)
number_raised δ (p ∷ π) (d ∷ ds) h zero = refl
number_raised δ (p ∷ π) (d ∷ ds) h (suc v) = number_raised δ π ds (omega arith) v

-- a store of one place's potential
pub raise_step : (δ : ℕ) (π ds : List ℕ) (v : ℕ) → length π ≡ most_places → length ds ≡ most_places → v < most_places
    → set (spliced v (raised δ π ds) π) v (number π v + min (get_or ds v 0) δ) ≡ spliced (v + 1) (raised δ π ds) π
raise_step δ π ds v p d h =
    rw (sym (number_raised δ π ds (d ∙ sym p) v))
    (spliced_step v (raised δ π ds) π (omega (arith, length_raised δ π ds)) (omega arith))

-- what holds of distances capped by r holds of them capped lower
cap_lower : (a b : ℕ) {r δ p q : ℕ} → δ ≤ r → min a r ≤ min b r + (q - p) → p ≤ q → min a δ + p ≤ min b δ + q
cap_lower a b i h k = omega arith

-- a tree that was searched for a state, and a raise by δ
module _ {N : Network} {s : State} {t : Tree} {δ : ℕ} (connects : Connects N) (p : Sound N s)
    (found : Searched N s.flow s.potential t) (near : δ ≤ t.reach) where
  number_by : (v : ℕ) → number (raised_by δ s t).potential v ≡ number s.potential v + min (distance t v) δ
  unfolding raised_by
  number_by v = number_raised δ s.potential t.distance (omega (arith, found.distances, p.potentials)) v

  by_distance : Raised N s.potential (distance t) δ (raised_by δ s t).potential
  by_distance = record { by_distance = λ v i. number_by v }

  distances : Distances N s.flow s.potential (distance t) δ
  distances =
      record {
        from_origin = omega (arith, found.root_distance);
        to_destination = omega (arith, found.reach_at);
        forward = λ e i h.
            let d = goes_along (2 * e) e refl in
            let f = found.capped (2 * e) (rw d.over i) (rw (room_along N d) (omega arith)) in
            cap_lower (distance t (link N e).end) (distance t (link N e).start) near (rw (head_along N d, tail_along N d, cost_along N s.potential d) at f) (p.primal_dual.slackness.room e i h);
        backward = λ e i h.
            let d = goes_against (2 * e + 1) e refl in
            let f = found.capped (2 * e + 1) (rw d.over i) (rw (room_against N d) (omega arith)) in
            cap_lower (distance t (link N e).start) (distance t (link N e).end) near (rw (head_against N d, tail_against N d, cost_against N s.potential d) at f) (p.primal_dual.slackness.used e i h);
      }

  -- the destination's potential grows by exactly δ
  pub raised_level : level N (raised_by δ s t) ≡ level N s + δ
  raised_level = raised_destination connects by_distance distances

  pub raised_sound : level N s + δ ≤ most_cut_number → Sound N (raised_by δ s t)
  unfolding raised_by
  raised_sound high =
      record {
        flows = p.flows;
        potentials = length_raised δ s.potential t.distance ∙ p.potentials;
        primal_dual = raise connects by_distance distances p.primal_dual;
        at_most = λ v. omega (arith, number_by v, p.at_most v, raised_level);
        limit = omega (arith, raised_level);
      }

-- raised by the whole reach
module _ {N : Network} {s : State} {t : Tree} (connects : Connects N) (p : Sound N s) (found : Searched N s.flow s.potential t)
  where
    tight : (v : ℕ) → 0 < rank t v → Reached N s.flow s.potential t v → Tight N (raised_by t.reach s t).potential (link_of (arc t v))
    tight v i r = go (arc_cases (arc t v))
      where
        whole : t.reach ≤ t.reach
        whole = omega arith

        go : Along (arc t v) (link_of (arc t v)) ⊎ Against (arc t v) (link_of (arc t v))
            → Tight N (raised_by t.reach s t).potential (link_of (arc t v))
        go (inl d) =
            let ends = sym (head_along N d) ∙ r.ends in
            let from = rw (tail_along N d) at (found.near (tail N (arc t v)) r.settled) in
            raised_tight connects (by_distance connects p found whole) (link_of (arc t v)) r.known from (rw ends (found.near v i))
            (omega (
              arith,
              rw (tail_along N d) at r.step,
              ap (distance t) ends,
              exact_along N s.potential d s.flow p.primal_dual.slackness r.known r.has_room,
            ))
        go (inr d) =
            let ends = sym (head_against N d) ∙ r.ends in
            let from = rw (tail_against N d) at (found.near (tail N (arc t v)) r.settled) in
            raised_tight connects (by_distance connects p found whole) (link_of (arc t v)) r.known (rw ends (found.near v i)) from
            (omega (
              arith,
              rw (tail_against N d) at r.step,
              ap (distance t) ends,
              exact_against N s.potential d s.flow p.primal_dual.slackness r.known r.has_room,
            ))

    pub raised_tree : t.found ≡ true → TightTree N (raised_by t.reach s t) t
    unfolding raised_by
    raised_tree f =
        record {
          ranks = found.ranks;
          arcs = found.arcs;
          rank_places = found.rank_places;
          rank_most = found.rank_most;
          destination = found.found f;
          reached = λ v i q.
              let r = found.reached v i q in
              record {
                known = r.known;
                ends = r.ends;
                has_room = r.has_room;
                settled = r.settled;
                before = r.before;
                tight = tight v i r;
              };
        }
