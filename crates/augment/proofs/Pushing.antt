-- Augmentation goes back over the tree's arcs from the destination to the origin. Two settled places never share a link, so the arcs still to
-- come have the room that they had; each push is a move of the static flow along a tight link. Assumes nothing.
use mathlib.Core.Path.{◌≡◌, refl, sym, ap, ◌∙◌}
use mathlib.Core.Logic.{◌≢◌, ◌⊎◌, inl, inr, ⊎_elim}
use mathlib.Core.List.{List}
use Prim.Native.Nat.{ℕ, zero, suc, ◌+◌, ◌≤◌, ◌<◌}
use native.Mathlib.Omega.{arith}
use lib.ListN.{length, set, length-set}
use lib.Seq.{get_or-set_other}
use Rattle.limits.specs.Limits.{most_links}
use Rattle.flows.specs.Network.{Network, link, WellFormed}
use Rattle.statics.specs.Static.{on_link}
use Rattle.statics.specs.Potentials.{Augmenting}
use Rattle.statics.proofs.PrimalDual.{augment_begin, augment_forward, augment_backward, augment_end}
use Rattle.residual.specs.declared.Tree.{Tree}
use Rattle.residual.specs.Residual.{link_of, tail, head, room}
use Rattle.residual.specs.Tree.{rank, arc}
use Rattle.residual.proofs.Arcs.{Along, tail_along, head_along, room_along, same_link, arc_cases}
use Rattle.residual.proofs.Arcs.{Against, tail_against, head_against, room_against}
use Rattle.states.specs.declared.State.{State}
use Rattle.states.specs.State.{Sound, TightArc, TightTree}
use Rattle.states.specs.Steps.{least_room, narrowest, pushed, Pushable, Augmented}
use Rattle.augment.proofs.Narrow.{least_step}

module _ {N : Network} {s : State} {t : Tree} (tree : TightTree N s t) where
  -- two settled places are not reached over the same link
  pub links_differ : (v w : ℕ) → TightArc N s t v → TightArc N s t w → rank t w < rank t v → link_of (arc t w) ≢ link_of (arc t v)
  links_differ v w a b less h =
      ⊎_elim
      (λ same. omega (arith, ap (rank t) (sym b.ends ∙ ap (head N) same ∙ a.ends)))
      (λ turned. omega (arith, ap (rank t) (turned.0 ∙ a.ends), b.before))
      (same_link N (arc t w) (arc t v) h)

-- the rest of the way from v has room for q blocks
pub record Fits (N : Network) (x : List ℕ) (t : Tree) (q v : ℕ) : Type 0 where
  pub most : ℕ
  pub ranked : rank t v ≤ most
  pub fits : q ≤ least_room N x t most v

-- one step of the way: the arc to v has the room, and so has the rest
module _ {N : Network} {s : State} {t : Tree} {q v : ℕ} (a : TightArc N s t v) (h : v ≢ N.origin) where
  fits_step : Fits N s.flow t q v → (q ≤ room N s.flow (arc t v)) × Fits N s.flow t q (tail N (arc t v))
  fits_step f = go f.most f.ranked f.fits
    where
      go : (k : ℕ) → rank t v ≤ k → q ≤ least_room N s.flow t k v
          → (q ≤ room N s.flow (arc t v)) × Fits N s.flow t q (tail N (arc t v))
      go zero r l = absurd (omega (arith, a.before))
      go (suc k) r l = (
        omega (arith, least_step N s.flow t k v h),
        record { most = k; ranked = omega (arith, a.before); fits = omega (arith, least_step N s.flow t k v h) },
      )

-- the way back stands at v: q blocks are on their way from v, and the arcs still to come have what they had
pub record Pushing (N : Network) (s : State) (t : Tree) (q : ℕ) (next : State) (v : ℕ) : Type 0 where
  pub flows : length next.flow ≡ most_links
  pub potential : next.potential ≡ s.potential
  pub augmenting : Augmenting N next.flow s.value v q s.potential
  pub settled : 0 < rank t v
  pub rest : Fits N s.flow t q v
  pub kept : (w : ℕ) → 0 < rank t w → w ≢ N.origin → rank t w ≤ rank t v
      → on_link next.flow (link_of (arc t w)) ≡ on_link s.flow (link_of (arc t w))

module _ {N : Network} {s : State} {t : Tree} {q : ℕ} (w : WellFormed N) (p : Sound N s) (tree : TightTree N s t) where
  pub push_begin : q ≤ narrowest N s.flow t → Pushing N s t q s N.destination
  push_begin l =
      record {
        flows = p.flows;
        potential = refl;
        augmenting = augment_begin q p.primal_dual;
        settled = tree.destination;
        rest = record { most = N.places; ranked = tree.rank_most N.destination; fits = l };
        kept = λ u i h r. refl;
      }

  module _ {next : State} {v : ℕ} (g : Pushing N s t q next v) (h : v ≢ N.origin) where
    abbrev over : ℕ
    over = link_of (arc t v)

    abbrev after : ℕ
    after = pushed (arc t v) (on_link next.flow over) q

    taken : TightArc N s t v
    taken = tree.reached v g.settled h

    -- the room of the arc to v is still what it was
    room_kept : q ≤ room N next.flow (arc t v)
    unfolding room
    room_kept = rw (g.kept v g.settled h (omega arith)) (fits_step taken h g.rest).0

    along_room : Along (arc t v) over → on_link next.flow over + q ≤ (link N over).capacity
    along_room d = omega (arith, rw (room_along N d) at room_kept, g.augmenting.within over taken.known)

    against_room : Against (arc t v) over → q ≤ on_link next.flow over
    against_room d = rw (room_against N d) at room_kept

    -- what the code asks for before it pushes
    pub push_allowed : Pushable (arc t v) (on_link next.flow over) q
    push_allowed =
        record {
          along_most = λ d. omega (arith, along_room (record { over = refl; direction = d }), w.capacity_most over taken.known);
          against_most = λ d. against_room (record { over = refl; direction = d });
        }

    index : over < length next.flow
    index = omega (arith, taken.known, w.links_most, g.flows)

    moved : Along (arc t v) over ⊎ Against (arc t v) over
        → Augmenting N (set next.flow over after) s.value (tail N (arc t v)) q s.potential
    moved (inl d) =
        rw (d.direction, tail_along N d)
        (augment_forward over taken.known index taken.tight g.augmenting (sym (head_along N d) ∙ taken.ends) (along_room d))
    moved (inr d) =
        rw (d.direction, tail_against N d)
        (augment_backward over taken.known index taken.tight g.augmenting (sym (head_against N d) ∙ taken.ends) (against_room d))

    pub push_step : Pushing N s t q (record { flow = set next.flow over after; value = next.value; potential = next.potential })
        (tail N (arc t v))
    push_step =
        record {
          flows = length-set next.flow over after ∙ g.flows;
          potential = g.potential;
          augmenting = moved (arc_cases (arc t v));
          settled = taken.settled;
          rest = (fits_step taken h g.rest).1;
          kept = λ u i j r.
              let less : rank t u < rank t v = omega (arith, taken.before) in
              get_or-set_other next.flow over (link_of (arc t u)) after 0 (links_differ tree v u taken (tree.reached u i j) less)
              ∙ g.kept u i j (omega arith);
        }

  -- at the origin the blocks are part of the flow
  pub push_end : {next : State} {v : ℕ} → Pushing N s t q next v → v ≡ N.origin → 0 < q
      → Augmented N s (record { flow = next.flow; value = s.value + q; potential = next.potential })
  push_end {next} {v} g h i =
      rw g.potential
      (record {
        sound = record {
          flows = g.flows;
          potentials = p.potentials;
          primal_dual = augment_end (rw h at g.augmenting);
          at_most = p.at_most;
          limit = p.limit;
        };
        potentials = refl;
        grows = omega arith;
      })
