-- The search, turn by turn, in the terms of its code: it begins with the origin, each turn relaxes both sides of the place settled last
-- and settles the nearest, and it ends at the destination or where nothing waits. Assumes nothing.
use mathlib.Core.Path.{◌≡◌, sym, subst⁻¹, ◌∙◌}
use mathlib.Core.Logic.{◌≢◌}
use mathlib.Core.Bool.{true, false}
use mathlib.Core.List.{List}
use Prim.Native.Nat.{ℕ, ◌+◌, ◌≤◌, ◌<◌}
use native.Mathlib.Omega.{arith}
use native.Mathlib.Decide.{ℕ_discrete}
use lib.ListN.{get_or, set, replicate}
use lib.Seq.{get_or-set_other}
use Rattle.flows.specs.Network as model
use Rattle.flows.proofs.Lists.{get_or_zeros}
use Rattle.network.specs.declared.Network.{Network}
use Rattle.network.specs.Held.{model_of}
use Rattle.network.proofs.Model.{places_model, origin_model, destination_model}
use Rattle.residual.specs.declared.Index.{Index}
use Rattle.residual.specs.declared.Direction.TheVariants.{Along, Against}
use Rattle.residual.specs.declared.Tree.{Tree}
use Rattle.residual.specs.Residual.{tail}
use Rattle.residual.specs.Tree.{far, Sized, Searchable, Searched}
use Rattle.residual.specs.Relax.{labels, Side, side, Relaxing, BothRelaxed}
use Rattle.residual.specs.declared.Labels.{Labels}
use Rattle.residual.specs.Index.{Indexed}
use Rattle.residual.proofs.Frontier.{Eased, Frontier, relaxing_of}
use Rattle.residual.proofs.Settle.{settle_frontier}
use Rattle.residual.proofs.Ends.{begin_frontier, tree_of, found_searched, lost_searched}
use Rattle.residual.proofs.Sides.{short, out_side_lem, into_side, turn_frontier, turn_eased}

-- what a search is given, and that it may be
pub record Task : Type 0 where
  pub network : Network
  pub index : Index
  pub flow : List ℕ
  pub potential : List ℕ
  pub searchable : Searchable (model_of network) flow potential
  pub indexed : Indexed (model_of network) index

-- the two sides at a place u
abbrev pub out_side : Task → ℕ → Side
out_side t u = side t.index.out.next t.network.links t.flow t.potential u Along

abbrev pub in_side : Task → ℕ → Side
in_side t u = side t.index.into.next t.network.links t.flow t.potential u Against

-- both are relaxed
abbrev pub Eases : Task → ℕ → Labels → Labels → Type 0
Eases t u = BothRelaxed (out_side t u) (get_or t.index.out.first u 0) (in_side t u) (get_or t.index.into.first u 0)

-- the place u was settled last, and the destination is not settled unless it is u
pub record Going (net : Network) (x π : List ℕ) (L : Labels) (R : List ℕ) (k u : ℕ) : Type 0 where
  pub frontier : Frontier (model_of net) x π L R k u
  pub apart : u ≢ net.destination → get_or R net.destination 0 ≡ 0

abbrev pub Goes : Task → Labels → List ℕ → ℕ → ℕ → Type 0
Goes t L R k u = Going t.network t.flow t.potential L R k u

-- a search of the task ends with this
abbrev pub Finds : Task → Tree → Type 0
Finds t r = Searched (model_of t.network) t.flow t.potential r

module _ (t : Task) where
  abbrev net : Network
  net = t.network

  abbrev N : model.Network
  N = model_of t.network

  sized : Sized N
  sized = t.searchable.sized

  pub places_most : net.places ≤ 64
  places_most = omega (arith, places_model net, sized.places_most)

  pub places_least : 0 < net.places
  places_least = omega (arith, places_model net, sized.connects.origin_in)

  pub origin_in : net.origin < 64
  origin_in = omega (arith, origin_model net, sized.connects.origin_in, sized.places_most)

  pub destination_in : net.destination < 64
  destination_in = omega (arith, destination_model net, sized.connects.destination_in, sized.places_most)

  pub go_begin : (u : ℕ) (D W A R : List ℕ) → u ≡ net.origin → D ≡ set (replicate 64 far) u 0 → W ≡ replicate 64 far → A ≡ replicate 64 0
      → R ≡ set (replicate 64 0) u 1 → Goes t (labels D W A) R 1 u
  go_begin u D W A R o d w a r =
      rw (d, w, a, r, o ∙ sym (origin_model net))
      (record {
        frontier = begin_frontier N t.flow t.potential sized.connects.origin_in sized.places_most t.searchable.at_origin;
        apart = λ n. get_or-set_other (replicate 64 0) N.origin net.destination 1 0 (λ e. n (sym e)) ∙ get_or_zeros 64 net.destination;
      })

  module _ (A : Labels) (R : List ℕ) (k u : ℕ) (g : Goes t A R k u) where
    pub place_in : u < 64
    place_in = omega (arith, g.frontier.rank_places u g.frontier.current, sized.places_most)

    pub settled_most : k ≤ 64
    settled_most = omega (arith, g.frontier.counts, sized.places_most)

    pub go_found : u ≡ net.destination → Finds t (tree_of A R (get_or A.distance u 0) true)
    go_found e =
        let d : u ≡ N.destination = e ∙ sym (destination_model net) in
        subst⁻¹ (λ (v : ℕ). Finds t (tree_of A R (get_or A.distance v 0) true)) d
        (found_searched N t.flow t.potential A R k u sized.connects sized.places_most g.frontier d)

    -- what relaxing along the links asks for, and against them
    pub out_asks : Relaxing (out_side t u) (get_or t.index.out.first u 0) A
    out_asks =
        relaxing_of N t.flow t.potential A R k u (get_or t.index.out.first u 0) (out_side t u) sized.places_most g.frontier
        (out_side_lem net t.flow t.potential t.index t.searchable t.indexed u place_in)

    pub in_asks : Relaxing (in_side t u) (get_or t.index.into.first u 0) A
    in_asks =
        relaxing_of N t.flow t.potential A R k u (get_or t.index.into.first u 0) (in_side t u) sized.places_most g.frontier
        (into_side net t.flow t.potential t.index t.searchable t.indexed u place_in)

    module _ (C : Labels) (p : Eases t u A C) where
      frontier : Frontier N t.flow t.potential C R k u
      frontier = turn_frontier net t.flow t.potential t.index t.searchable t.indexed u place_in A C R k g.frontier p

      eased : (a : ℕ) → tail N a ≡ u → Eased N t.flow t.potential C a
      eased = turn_eased net t.flow t.potential t.index t.searchable t.indexed u place_in A C R k g.frontier p

      -- no place that waits is nearer than the place settled last
      pub go_lowest : (w : ℕ) → w < net.places → get_or C.distance u 0 ≤ get_or C.waiting w 0
      go_lowest w h =
          let i : w < N.places = omega (arith, places_model net) in
          elim (ℕ_discrete (get_or R w 0) 0) [
            | yes e ↦ omega (arith, frontier.waiting w i e, frontier.beyond w i e)
            | no d ↦ omega (arith, frontier.resting w (omega arith), frontier.distance_most u)
          ]

      module _ (n : u ≢ net.destination) (v : ℕ) (h : v < net.places)
          (l : (w : ℕ) → w < net.places → get_or C.waiting v 0 ≤ get_or C.waiting w 0) where
        -- nothing waits
        pub go_lost : get_or C.waiting v 0 ≡ far → Finds t (tree_of C R far false)
        go_lost e =
            lost_searched N t.flow t.potential C R k u sized.connects sized.places_most frontier
            (short N t.flow t.potential t.searchable) (rw (destination_model net) (g.apart n)) eased
            (λ w j. omega (arith, l w (omega (arith, places_model net))))

        -- the nearest place is settled
        pub go_on : get_or C.waiting v 0 ≢ far
            → Goes t (labels C.distance (set C.waiting v far) C.arc) (set R v (k + 1)) (k + 1) v
        go_on m = record {
          frontier =
              settle_frontier N t.flow t.potential C R k u v frontier eased (omega (arith, places_model net)) sized.places_most m
              (λ w j. l w (omega (arith, places_model net)));
          apart = λ d. get_or-set_other R v net.destination (k + 1) 0 (λ e. d (sym e)) ∙ g.apart n;
        }
