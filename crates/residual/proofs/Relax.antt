-- A chain of links whose arcs are relaxed, one after another: at each link the labels of its arc's head are lowered or stay, and what was
-- relaxed stays so, since distances only fall. Assumes nothing.
use mathlib.Core.Path.{◌≡◌, refl, sym, subst, ◌∙◌}
use mathlib.Core.Logic.{◌≢◌, ◌⊎◌, inl, inr, ⊎_elim}
use mathlib.Core.List.{List}
use Prim.Native.Nat.{ℕ, ◌+◌, ◌-◌, ◌*◌, ◌≤◌, ◌<◌}
use native.Mathlib.Omega.{arith}
use native.Mathlib.Decide.{ℕ_discrete, dec_lt}
use lib.ListN.{length, get_or, set, length-set}
use lib.Seq.{get_or-set_same, get_or-set_other}
use borrow.Author.Tests.{lt-ltb, le-ltb}
use Rattle.residual.specs.Relax.{Side, OnChain, here, later, head_on, room_at, offer, Kept, Lowered, Relaxable, Relaxing, Relaxed, parity}
use Rattle.residual.specs.declared.Labels.{Labels}

-- ---- along the chain

-- the labels M, of those that were L, when the links before a number are relaxed
pub record RelaxedTo (S : Side) (first : ℕ) (L M : Labels) (at : ℕ) : Type 0 where
  pub distances : length M.distance ≡ length L.distance
  pub waitings : length M.waiting ≡ length L.waiting
  pub arcs : length M.arc ≡ length L.arc
  pub label : (v : ℕ) → Kept L M v ⊎ Lowered S first L M v
  pub ahead : (e : ℕ) → OnChain S.next at e → OnChain S.next first e
  pub done : (e : ℕ) → OnChain S.next first e → OnChain S.next at e
      ⊎ (get_or M.distance (head_on S e) 0 ≤ offer S (get_or L.distance S.place 0) e)

on_none : {next : List ℕ} {at e : ℕ} → OnChain next at e → at ≡ 0 → ⊥
on_none (here e) h = omega arith
on_none (later i e c) h = omega arith

-- a link of a chain is its first, or one of the rest
on_rest : {next : List ℕ} {at e : ℕ} → OnChain next at e → (e ≡ at - 1) ⊎ OnChain next (get_or next (at - 1) 0) e
on_rest (here e) = inl (omega arith)
on_rest {next} (later i e c) = inr (subst (λ (k : ℕ). OnChain next (get_or next k 0) e) (omega arith) c)

pub on_first : (next : List ℕ) (at : ℕ) → 0 < at → OnChain next at (at - 1)
on_first next at h = subst (λ (k : ℕ). OnChain next k (at - 1)) (omega arith) (here (at - 1))

on_later : (next : List ℕ) (at e : ℕ) → 0 < at → OnChain next (get_or next (at - 1) 0) e → OnChain next at e
on_later next at e h c = subst (λ (k : ℕ). OnChain next k e) (omega arith) (later (at - 1) e c)

module _ (S : Side) (first : ℕ) (L : Labels) where
  pub relaxed_none : RelaxedTo S first L L first
  relaxed_none = record {
    distances = refl;
    waitings = refl;
    arcs = refl;
    label = λ v. inl (record { distance = refl; waiting = refl; arc = refl });
    ahead = λ e c. c;
    done = λ e c. inl c;
  }

  pub relaxed_end : (M : Labels) (at : ℕ) → at ≡ 0 → RelaxedTo S first L M at → Relaxed S first L M
  relaxed_end M at z w = record {
    distances = w.distances;
    waitings = w.waitings;
    arcs = w.arcs;
    label = w.label;
    done = λ e c. ⊎_elim (λ a. absurd (on_none a z)) (λ d. d) (w.done e c);
  }

  -- distances fall
  falls : (M : Labels) → ((v : ℕ) → Kept L M v ⊎ Lowered S first L M v) → (v : ℕ) → get_or M.distance v 0 ≤ get_or L.distance v 0
  falls M l v = ⊎_elim (λ p. omega (arith, p.distance)) (λ p. omega (arith, p.lower)) (l v)

  -- the next link, where distances have not risen and the link's arc offers no less than its head has
  next_done : (M M' : Labels) (at : ℕ) → 0 < at → RelaxedTo S first L M at
      → ((v : ℕ) → get_or M'.distance v 0 ≤ get_or M.distance v 0)
      → get_or M'.distance (head_on S (at - 1)) 0 ≤ offer S (get_or L.distance S.place 0) (at - 1)
      → (e : ℕ) → OnChain S.next first e
      → OnChain S.next (get_or S.next (at - 1) 0) e
      ⊎ (get_or M'.distance (head_on S e) 0 ≤ offer S (get_or L.distance S.place 0) e)
  next_done M M' at p w f o e c =
      ⊎_elim
      (λ a.
      ⊎_elim
      (λ q. inr (subst (λ (k : ℕ). get_or M'.distance (head_on S k) 0 ≤ offer S (get_or L.distance S.place 0) k) (sym q) o))
      inl
      (on_rest a))
      (λ d. inr (omega (arith, f (head_on S e))))
      (w.done e c)

  module _ (M : Labels) (at : ℕ) (p : 0 < at) (w : RelaxedTo S first L M at) where
    -- the head keeps its labels
    pub relaxed_same : get_or M.distance (head_on S (at - 1)) 0 ≤ offer S (get_or L.distance S.place 0) (at - 1)
        → RelaxedTo S first L M (get_or S.next (at - 1) 0)
    relaxed_same o = record {
      distances = w.distances;
      waitings = w.waitings;
      arcs = w.arcs;
      label = w.label;
      ahead = λ e c. w.ahead e (on_later S.next at e p c);
      done = next_done M M at p w (λ v. omega arith) o;
    }

    module _ (r : Relaxing S first L)
        (o : offer S (get_or L.distance S.place 0) (at - 1) < get_or M.distance (head_on S (at - 1)) 0) where
      to : ℕ
      to = head_on S (at - 1)

      new : ℕ
      new = offer S (get_or L.distance S.place 0) (at - 1)

      lower : Labels
      lower = record {
        distance = set M.distance to new;
        waiting = set M.waiting to new;
        arc = set M.arc to (2 * (at - 1) + parity S.direction);
      }

      to_in : to < 64
      unfolding to
      to_in = (r.each (at - 1) (w.ahead (at - 1) (on_first S.next at p))).leads

      roomy : 0 < room_at S (at - 1)
      roomy =
          elim (dec_lt 0 (room_at S (at - 1))) [
            | yes h ↦ h
            | no h ↦
                absurd
                (omega (
                  arith,
                  rw (le-ltb 0 (room_at S (at - 1)) (omega arith)) at o,
                  falls M w.label (head_on S (at - 1)),
                  r.distance_most (head_on S (at - 1)),
                ))
          ]

      at_to : get_or lower.distance to 0 ≡ new
      unfolding lower
      at_to = get_or-set_same M.distance to new 0 (omega (arith, to_in, w.distances, r.distances))

      at_other : (v : ℕ) → v ≢ to → Kept M lower v
      unfolding lower
      at_other v n = record {
        distance = get_or-set_other M.distance to v new 0 n;
        waiting = get_or-set_other M.waiting to v new 0 n;
        arc = get_or-set_other M.arc to v (2 * (at - 1) + parity S.direction) 0 n;
      }

      lowered_to : Lowered S first L lower to
      unfolding lower to new
      lowered_to = record {
        link = at - 1;
        listed = w.ahead (at - 1) (on_first S.next at p);
        leads = refl;
        roomy = roomy;
        distance = at_to ∙ rw (lt-ltb 0 (room_at S (at - 1)) roomy);
        waiting = get_or-set_same M.waiting to new 0 (omega (arith, to_in, w.waitings, r.waitings)) ∙ sym at_to;
        arc = get_or-set_same M.arc to (2 * (at - 1) + parity S.direction) 0 (omega (arith, to_in, w.arcs, r.arcs));
        lower = omega (arith, at_to, o, falls M w.label to);
      }

      label' : (v : ℕ) → Kept L lower v ⊎ Lowered S first L lower v
      label' v =
          elim (ℕ_discrete v to) [
            | yes e ↦ inr (rw e lowered_to)
            | no n ↦
                let q = at_other v n in
                ⊎_elim
                (λ k. inl (record { distance = q.distance ∙ k.distance; waiting = q.waiting ∙ k.waiting; arc = q.arc ∙ k.arc }))
                (λ k. inr (record {
                  link = k.link;
                  listed = k.listed;
                  leads = k.leads;
                  roomy = k.roomy;
                  distance = q.distance ∙ k.distance;
                  waiting = q.waiting ∙ k.waiting ∙ sym q.distance;
                  arc = q.arc ∙ k.arc;
                  lower = omega (arith, q.distance, k.lower);
                }))
                (w.label v)
          ]

      lower_falls : (v : ℕ) → get_or lower.distance v 0 ≤ get_or M.distance v 0
      unfolding to new
      lower_falls v =
          elim (ℕ_discrete v to) [ yes e ↦ rw e (omega (arith, at_to, o)) | no n ↦ omega (arith, (at_other v n).distance) ]

      -- the head's labels are lowered
      pub relaxed_lower : RelaxedTo S first L
          (record {
            distance = set M.distance (head_on S (at - 1)) (offer S (get_or L.distance S.place 0) (at - 1));
            waiting = set M.waiting (head_on S (at - 1)) (offer S (get_or L.distance S.place 0) (at - 1));
            arc = set M.arc (head_on S (at - 1)) (2 * (at - 1) + parity S.direction);
          })
          (get_or S.next (at - 1) 0)
      unfolding lower to new
      relaxed_lower = record {
        distances = length-set M.distance to new ∙ w.distances;
        waitings = length-set M.waiting to new ∙ w.waitings;
        arcs = length-set M.arc to (2 * (at - 1) + parity S.direction) ∙ w.arcs;
        label = label';
        ahead = λ e c. w.ahead e (on_later S.next at e p c);
        done = next_done M lower at p w lower_falls (omega (arith, at_to));
      }

-- the same, in the terms of a code that names the head, what its arc offers and the labels after the stores
module _ (S : Side) (first : ℕ) (L : Labels) (r : Relaxing S first L) (M M' : Labels) (at : ℕ) (p : 0 < at)
    (w : RelaxedTo S first L M at) (to new : ℕ) (t : to ≡ head_on S (at - 1))
    (n : new ≡ offer S (get_or L.distance S.place 0) (at - 1)) where
  pub relaxed_stored : (a : ℕ) → a ≡ 2 * (at - 1) + parity S.direction → new < get_or M.distance to 0
      → M' ≡ record { distance = set M.distance to new; waiting = set M.waiting to new; arc = set M.arc to a }
      → RelaxedTo S first L M' (get_or S.next (at - 1) 0)
  relaxed_stored a e o d = rw (d, e, t, n) (relaxed_lower S first L M at p w r (rw (t, n) at o))

  pub relaxed_left : get_or M.distance to 0 ≤ new → M' ≡ M → RelaxedTo S first L M' (get_or S.next (at - 1) 0)
  relaxed_left o d = rw d (relaxed_same S first L M at p w (rw (t, n) at o))

-- the link that a loop along the chain is at can be relaxed
module _ {S : Side} {first at : ℕ} {L M : Labels} (r : Relaxing S first L) (w : RelaxedTo S first L M at) (p : 0 < at) where
  pub usable : Relaxable S (at - 1)
  usable = r.each (at - 1) (w.ahead (at - 1) (on_first S.next at p))

-- the chain ahead is of links
pub few_ahead : {S : Side} {first at : ℕ} {L M : Labels} → Relaxing S first L → RelaxedTo S first L M at → at ≤ 256
few_ahead {at = at} r w = elim (dec_lt 0 at) [ yes p ↦ omega (arith, (usable r w p).known) | no p ↦ omega arith ]

-- ---- another side after it

-- what another side asks for it still has
pub relaxing_after : (S T : Side) (first other : ℕ) (L M : Labels) → Relaxed S first L M → Relaxing T other L → Relaxing T other M
relaxing_after S T first other L M r q = record {
  distances = r.distances ∙ q.distances;
  waitings = r.waitings ∙ q.waitings;
  arcs = r.arcs ∙ q.arcs;
  place_in = q.place_in;
  each = q.each;
  distance_most = λ v. omega (arith, falls S first L M r.label v, q.distance_most v);
  place_most = omega (arith, falls S first L M r.label T.place, q.place_most);
}
