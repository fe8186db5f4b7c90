-- The optimizer's state: a static flow with its value, and potentials. Its invariant is complementary slackness between the two
-- (a primal_dual pair): the potentials are a cut for the destination's potential, and by it every state is optimal for a horizon.
use Rattle.std.specs.Prelude.{◌≡◌, ◌≢◌, List, [], ◌∷◌, ℕ, ◌+◌, ◌≤◌, ◌<◌, min, length}
use Rattle.limits.specs.Limits.{most_places, most_links, most_cut_number}
use Rattle.flows.specs.Network.{Network, count}
use Rattle.flows.specs.Cut.{number}
use Rattle.statics.specs.Potentials.{Tight, PrimalDual}
use Rattle.residual.specs.declared.Tree.{Tree}
use Rattle.residual.specs.Residual.{link_of, tail, head, room}
use Rattle.residual.specs.Tree.{rank, arc}
use Rattle.states.specs.declared.State.{State}

pub record Sound (N : Network) (s : State) : Type 0 where
  pub flows : length s.flow ≡ most_links
  pub potentials : length s.potential ≡ most_places
  pub primal_dual : PrimalDual N s.flow s.value s.potential
  -- at the numbers past the places too
  pub at_most : (v : ℕ) → number s.potential v ≤ number s.potential N.destination
  pub limit : number s.potential N.destination ≤ most_cut_number

-- potentials raised by distances capped at δ, place by place
unfoldable pub raised : ℕ → List ℕ → List ℕ → List ℕ
raised δ [] ds = []
raised δ (p ∷ π) [] = p ∷ π
raised δ (p ∷ π) (d ∷ ds) = (p + min d δ) ∷ raised δ π ds

-- a tree in which every settled place but the origin is reached over a tight link with room from a place settled before it: what
-- augmentation goes along
pub record TightArc (N : Network) (s : State) (t : Tree) (v : ℕ) : Type 0 where
  pub known : link_of (arc t v) < count N
  pub ends : head N (arc t v) ≡ v
  pub has_room : 0 < room N s.flow (arc t v)
  pub settled : 0 < rank t (tail N (arc t v))
  pub before : rank t (tail N (arc t v)) < rank t v
  pub tight : Tight N s.potential (link_of (arc t v))

pub record TightTree (N : Network) (s : State) (t : Tree) : Type 0 where
  pub ranks : length t.rank ≡ most_places
  pub arcs : length t.arc ≡ most_places
  pub rank_places : (v : ℕ) → 0 < rank t v → v < N.places
  pub rank_most : (v : ℕ) → rank t v ≤ N.places
  pub destination : 0 < rank t N.destination
  pub reached : (v : ℕ) → 0 < rank t v → v ≢ N.origin → TightArc N s t v
