-- The two sides of the residual network at a place, as the search lends them: the chain of links that start there, with the arcs along
-- them, and the chain of links that end there, with the arcs against them. Assumes nothing.
use mathlib.Core.Path.{◌≡◌, refl, sym, ap, subst, ◌∙◌}
use mathlib.Core.Logic.{⊎_elim}
use mathlib.Core.List.{List}
use Prim.Native.Nat.{ℕ, ◌+◌, ◌-◌, ◌*◌, ◌≤◌, ◌<◌}
use native.Mathlib.Omega.{arith}
use lib.IntN.{pos, neg_ℤ}
use lib.ListN.{length, get_or, length-map, get_or-map}
use Rattle.limits.specs.Limits.{most_places, most_transit}
use Rattle.flows.specs.declared.Link.{Link}
use Rattle.flows.specs.Network.{link, count, no_link}
use Rattle.flows.specs.Network as model
use Rattle.flows.specs.Cut.{number, counted}
use Rattle.network.specs.declared.Network.{Network}
use Rattle.network.specs.Held.{link_at, model_of}
use Rattle.network.proofs.Model.{known_link}
use Rattle.buckets.specs.Buckets.{Bucketed}
use Rattle.residual.specs.declared.Index.{Index}
use Rattle.residual.specs.declared.Direction.TheVariants as direction
use Rattle.residual.specs.Residual.{link_of, tail, head, room, arc_transit, reduced_cost, arc_cost}
use Rattle.residual.specs.Tree.{Searchable}
use Rattle.residual.specs.Relax.{Side, side, OnChain, signed, link_on, head_on, price, room_at, BothRelaxed, parity}
use Rattle.residual.specs.declared.Labels.{Labels}
use Rattle.residual.specs.Index.{Indexed, ends}
use Rattle.residual.proofs.Arcs.{Along, goes_along, number_along, tail_along, head_along, room_along, transit_along, arc_cases, head_in}
use Rattle.residual.proofs.Arcs.{Against, goes_against, number_against, tail_against, head_against, room_against, transit_against}
use Rattle.residual.proofs.Costs.{grows, reduced_pos}
use Rattle.residual.proofs.Listed.{listed_key, key_listed, listed_falls}
use Rattle.residual.proofs.Frontier.{Eased, Frontier, ArcOf, SideOf, relax_frontier, side_eased, still_eased}

module _ (N : model.Network) (x π : List ℕ) (s : Searchable N x π) where
  -- along an arc with room, potential and reduced cost together grow by no more than the longest transit
  pub short : (a : ℕ) → link_of a < count N → 0 < room N x a → number π (head N a) + arc_cost N π a ≤ number π (tail N a) + most_transit
  short a k h =
      omega (arith, grows N x π a s.slackness k h, s.sized.transit_most (link_of a) k)

  -- an arc of a side, from what the side's lists have for its link
  module _ (S : Side) (u e : ℕ) (i : S.place ≡ u) (p : S.potential ≡ π) (k : e < count N) (n : link_of (2 * e + parity S.direction) ≡ e)
      (t : tail N (2 * e + parity S.direction) ≡ u) (h : head_on S e ≡ head N (2 * e + parity S.direction))
      (r : room_at S e ≡ room N x (2 * e + parity S.direction))
      (j : (link_on S e).transit ≡ (link N e).transit) (d : signed S.direction (link_on S e).transit ≡ arc_transit N (2 * e + parity S.direction))
      (f : get_or S.next e 0 ≤ e) where
    known : link_of (2 * e + parity S.direction) < count N
    known = rw n k

    priced : price S e ≡ reduced_cost N π (2 * e + parity S.direction)
    unfolding reduced_cost
    priced = rw (p, i, h, d, t)

    not_negative : 0 < room_at S e → price S e ≡ pos (counted (price S e))
    unfolding arc_cost
    not_negative l = rw priced (reduced_pos N x π (2 * e + parity S.direction) s.slackness known (omega (arith, r)))

    pub arc_of : ArcOf N x π S u e
    arc_of = record {
      known = k;
      numbered = n;
      leaves = t;
      leads = h;
      roomy = r;
      priced = priced;
      short = λ l. rw t at (short (2 * e + parity S.direction) known l);
      relaxable = record {
        known = omega (arith, s.sized.links_most);
        falls = f;
        leads = rw h (omega (arith, head_in N s.sized.connects (2 * e + parity S.direction) known, s.sized.places_most));
        transit_most = omega (arith, s.sized.transit_most e k);
        priced = not_negative;
      };
    }

-- the chain of the links that have one end at a place
module _ (N : model.Network) (end : Link → ℕ) (z : end no_link ≡ 0) (first next : List ℕ) (g : Bucketed (ends end N) first next)
    (l : length first ≡ most_places) (u : ℕ) (h : u < most_places) where
  end_at : (e : ℕ) → get_or (ends end N) e 0 ≡ end (link N e)
  unfolding link
  end_at e = subst (λ (n : ℕ). get_or (ends end N) e n ≡ end (get_or N.links e no_link)) z (get_or-map end N.links e no_link)

  many : length (ends end N) ≡ count N
  many = length-map N.links end

  pub chain_link : (e : ℕ) → OnChain next (get_or first u 0) e → (e < count N) × (end (link N e) ≡ u)
  chain_link e c =
      let q = listed_key (ends end N) first next g u (omega arith) e c in
      (omega (arith, q.0, many), sym (end_at e) ∙ q.1)

  pub link_chain : (e : ℕ) → e < count N → end (link N e) ≡ u → OnChain next (get_or first u 0) e
  link_chain e k q = key_listed (ends end N) first next g u (omega arith) e (omega (arith, many)) (end_at e ∙ q)

  pub chain_falls : (e : ℕ) → OnChain next (get_or first u 0) e → get_or next e 0 ≤ e
  chain_falls e c = listed_falls (ends end N) first next g u (omega arith) e c

module _ (net : Network) (x π : List ℕ) (index : Index) (s : Searchable (model_of net) x π) (i : Indexed (model_of net) index) (u : ℕ)
    (h : u < most_places) where
  abbrev N : model.Network
  N = model_of net

  abbrev pub out : Side
  out = side index.out.next net.links x π u direction.Along

  abbrev pub into : Side
  into = side index.into.next net.links x π u direction.Against

  column : (f : Link → ℕ) (e : ℕ) → e < count N → f (link_at net e) ≡ f (link N e)
  column f e k = ap f (sym (known_link net e k))

  forth : (e : ℕ) → Along (2 * e + 0) e
  forth e = goes_along (2 * e + 0) e (omega arith)

  back : (e : ℕ) → Against (2 * e + 1) e
  back e = goes_against (2 * e + 1) e refl

  out_arc : (e : ℕ) → OnChain index.out.next (get_or index.out.first u 0) e → ArcOf N x π out u e
  out_arc e c =
      let q = chain_link N (λ l. l.start) refl index.out.first index.out.next i.out i.out_places u h e c in
      let j : (link_at net e).transit ≡ (link N e).transit = column (λ l. l.transit) e q.0 in
      arc_of N x π s out u e refl refl q.0 (forth e).over
      (tail_along N (forth e) ∙ q.1)
      (column (λ l. l.end) e q.0 ∙ sym (head_along N (forth e)))
      (ap (λ (n : ℕ). n - get_or x e 0) (column (λ l. l.capacity) e q.0) ∙ sym (room_along N (forth e) x))
      j
      (ap pos j ∙ sym (transit_along N (forth e)))
      (chain_falls N (λ l. l.start) refl index.out.first index.out.next i.out i.out_places u h e c)

  pub out_side_lem : SideOf N x π out (get_or index.out.first u 0) u
  out_side_lem = record {
    here = refl;
    potential = refl;
    arcs = out_arc;
    all =
        λ e k t. link_chain N (λ l. l.start) refl index.out.first index.out.next i.out i.out_places u h e k
        (sym (tail_along N (forth e)) ∙ t);
  }

  into_arc : (e : ℕ) → OnChain index.into.next (get_or index.into.first u 0) e → ArcOf N x π into u e
  into_arc e c =
      let q = chain_link N (λ l. l.end) refl index.into.first index.into.next i.into i.in_places u h e c in
      let j : (link_at net e).transit ≡ (link N e).transit = column (λ l. l.transit) e q.0 in
      arc_of N x π s into u e refl refl q.0 (back e).over
      (tail_against N (back e) ∙ q.1)
      (column (λ l. l.start) e q.0 ∙ sym (head_against N (back e)))
      (sym (room_against N (back e) x))
      j
      (ap (λ (n : ℕ). neg_ℤ (pos n)) j ∙ sym (transit_against N (back e)))
      (chain_falls N (λ l. l.end) refl index.into.first index.into.next i.into i.in_places u h e c)

  pub into_side : SideOf N x π into (get_or index.into.first u 0) u
  into_side = record {
    here = refl;
    potential = refl;
    arcs = into_arc;
    all =
        λ e k t. link_chain N (λ l. l.end) refl index.into.first index.into.next i.into i.in_places u h e k
        (sym (tail_against N (back e)) ∙ t);
  }

  -- both sides of the last settled place are relaxed, one after the other: the invariant holds, and all its arcs are relaxed
  module _ (A C : Labels) (R : List ℕ) (k : ℕ) (f : Frontier N x π A R k u)
      (p : BothRelaxed out (get_or index.out.first u 0) into (get_or index.into.first u 0) A C) where
    abbrev B : Labels
    B = p.between

    first_frontier : Frontier N x π B R k u
    first_frontier = relax_frontier N x π A B R k u (get_or index.out.first u 0) out f out_side_lem p.once

    pub turn_frontier : Frontier N x π C R k u
    turn_frontier = relax_frontier N x π B C R k u (get_or index.into.first u 0) into first_frontier into_side p.twice

    settled_tail : (a : ℕ) → tail N a ≡ u → 0 < get_or R (tail N a) 0
    settled_tail a t = subst (λ (v : ℕ). 0 < get_or R v 0) (sym t) f.current

    out_eased : (e : ℕ) → tail N (2 * e + 0) ≡ u → Eased N x π C (2 * e + 0)
    out_eased e t =
        still_eased N x π B C R k u (get_or index.into.first u 0) into first_frontier into_side p.twice (2 * e + 0) (settled_tail (2 * e + 0) t)
        (side_eased N x π A B R k u (get_or index.out.first u 0) out f out_side_lem p.once e t (forth e).over)

    into_eased : (e : ℕ) → tail N (2 * e + 1) ≡ u → Eased N x π C (2 * e + 1)
    into_eased e t =
        side_eased N x π B C R k u (get_or index.into.first u 0) into first_frontier into_side p.twice e t (back e).over

    pub turn_eased : (a : ℕ) → tail N a ≡ u → Eased N x π C a
    turn_eased a t =
        ⊎_elim
        (λ d.
        let r : 2 * link_of a + 0 ≡ a = omega (arith, number_along d) in
        subst (Eased N x π C) r (out_eased (link_of a) (ap (tail N) r ∙ t)))
        (λ d.
        let r : 2 * link_of a + 1 ≡ a = sym (number_against d) in
        subst (Eased N x π C) r (into_eased (link_of a) (ap (tail N) r ∙ t)))
        (arc_cases a)
