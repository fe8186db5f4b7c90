-- Potentials while they are raised from zero to a cut: what holds of them, and what a search has to say of its distances so that
-- it keeps holding.
use Rattle.std.specs.Prelude.{◌≡◌, List, ℕ, ◌+◌, ◌≤◌, ◌<◌, min, length}
use Rattle.flows.specs.Network.{Network, link, count}
use Rattle.flows.specs.Cut.{number}
use Rattle.statics.specs.Static.{on_link, Balanced, StaticFlow, Slackness}

-- a cut for the horizon that is its number at the destination; numbers past the places do not matter
pub record Potentials (N : Network) (π : List ℕ) : Type 0 where
  pub at_origin : number π N.origin ≡ 0
  pub at_most : (u : ℕ) → u < N.places → number π u ≤ number π N.destination

-- a link of slack zero: whatever is on it, it agrees with slackness
abbrev pub Tight : Network → List ℕ → ℕ → Type 0
Tight N π e = number π (link N e).end ≡ number π (link N e).start + (link N e).transit

-- distances from the origin over residual arcs, by reduced costs, as far as δ: along each residual arc the distance, capped by δ,
-- grows by no more than the reduced cost. A link that has room is a forward arc, a link that is used a backward one.
pub record Distances (N : Network) (x π : List ℕ) (d : ℕ → ℕ) (δ : ℕ) : Type 0 where
  pub from_origin : d N.origin ≡ 0
  pub to_destination : δ ≤ d N.destination
  pub forward : (e : ℕ) → e < count N → on_link x e < (link N e).capacity
      → min (d (link N e).end) δ + number π (link N e).end ≤ min (d (link N e).start) δ + (number π (link N e).start + (link N e).transit)
  pub backward : (e : ℕ) → e < count N → 0 < on_link x e
      → min (d (link N e).start) δ + (number π (link N e).start + (link N e).transit) ≤ min (d (link N e).end) δ + number π (link N e).end

-- π' is π, raised at each place by its distance as far as δ
pub record Raised (N : Network) (π : List ℕ) (d : ℕ → ℕ) (δ : ℕ) (π' : List ℕ) : Type 0 where
  pub by_distance : (u : ℕ) → u < N.places → number π' u ≡ number π u + min (d u) δ

-- the state of the primal_dual method: a static flow of value v and potentials that belong together
pub record PrimalDual (N : Network) (x : List ℕ) (v : ℕ) (π : List ℕ) : Type 0 where
  pub flow : StaticFlow N x v
  pub slackness : Slackness N x π
  pub potentials : Potentials N π

-- a state whose level is as many slots: optimal for each horizon of which as many count
pub record Optimal (N : Network) (slots : ℕ) : Type 0 where
  pub blocks : List ℕ
  pub value : ℕ
  pub potentials : List ℕ
  pub state : PrimalDual N blocks value potentials
  pub long : N.places ≤ length potentials
  pub level : number potentials N.destination ≡ slots

-- the state while it is augmented by b blocks: the path is followed back from the destination as far as the place w
pub record Augmenting (N : Network) (x : List ℕ) (v w b : ℕ) (π : List ℕ) : Type 0 where
  pub within : (e : ℕ) → e < count N → on_link x e ≤ (link N e).capacity
  pub balanced : Balanced N x v w b
  pub slackness : Slackness N x π
  pub potentials : Potentials N π
