-- The steps of the primal_dual method, from state to state: the start, a raise of the potentials, the bottleneck of the augmenting
-- path and the augmentation.
use Rattle.std.specs.Prelude.{◌≡◌, true, false, cond, List, ◌++◌, ℕ, zero, suc, ◌+◌, ◌-◌, ◌≤◌, ◌<◌, min, length, take, drop, replicate, eqb}
use Rattle.limits.specs.Limits.{most_places, most_links, most_capacity, most_cut_number}
use Rattle.flows.specs.Network.{Network, WellFormed}
use Rattle.flows.specs.Cut.{number}
use Rattle.residual.specs.declared.Tree.{Tree}
use Rattle.residual.specs.Residual.{along, tail, room}
use Rattle.residual.specs.Tree.{arc}
use Rattle.states.specs.declared.State.{State}
use Rattle.states.specs.State.{Sound, TightTree, raised}

-- the potential of the destination: the horizon for which the state is optimal
abbrev pub level : Network → State → ℕ
level N s = number s.potential N.destination

-- the start: no flow, all potentials 0
unfoldable pub zero_state : State
zero_state = record { flow = replicate most_links 0; value = 0; potential = replicate most_places 0 }

-- the state with its potentials raised by a tree's distances, capped at δ
unfoldable pub raised_by : ℕ → State → Tree → State
raised_by δ s t = record { flow = s.flow; value = s.value; potential = raised δ s.potential t.distance }

-- what a raise by δ asks for
pub record Raisable (s : State) (t : Tree) (δ : ℕ) : Type 0 where
  pub potentials : length s.potential ≡ most_places
  pub distances : length t.distance ≡ most_places
  pub potential_most : (v : ℕ) → number s.potential v ≤ most_cut_number
  pub by_most : δ ≤ most_cut_number

-- the least room of the arcs that lead to the place v from the origin, at most k of them: the bottleneck
unfoldable pub least_room : Network → List ℕ → Tree → ℕ → ℕ → ℕ
least_room N x t zero v = most_capacity
least_room N x t (suc k) v =
    cond (eqb v N.origin) most_capacity (min (room N x (arc t v)) (least_room N x t k (tail N (arc t v))))

-- the bottleneck of the whole augmenting path
abbrev pub narrowest : Network → List ℕ → Tree → ℕ
narrowest N x t = least_room N x t N.places N.destination

-- what stands on a link after q blocks are pushed over one of its arcs
abbrev pub pushed : ℕ → ℕ → ℕ → ℕ
pushed a blocks q = cond (along a) (blocks + q) (blocks - q)

-- what a push asks for: along the link no more than a link can carry, against it no more than is there
pub record Pushable (a blocks q : ℕ) : Type 0 where
  pub along_most : along a ≡ true → blocks + q ≤ most_capacity
  pub against_most : along a ≡ false → q ≤ blocks

-- what augmentation asks for
pub record Augmentable (N : Network) (s : State) (t : Tree) : Type 0 where
  pub well_formed : WellFormed N
  pub sound : Sound N s
  pub tree : TightTree N s t

-- what augmentation leaves: more flow under the same potentials
pub record Augmented (N : Network) (s r : State) : Type 0 where
  pub sound : Sound N r
  pub potentials : r.potential ≡ s.potential
  pub grows : s.value < r.value

-- the list d with its first n numbers from the list s
abbrev pub spliced : ℕ → List ℕ → List ℕ → List ℕ
spliced n s d = take n s ++ drop n d

-- what a step to a limit asks for
pub record Steppable (N : Network) (s : State) (limit : ℕ) : Type 0 where
  pub well_formed : WellFormed N
  pub sound : Sound N s
  pub below : level N s ≤ limit
  pub limit_most : limit ≤ most_cut_number
