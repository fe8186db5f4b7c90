-- The bound of a struct's network, link by link: the numbers that the code reads are those of the model. Assumes nothing.
use mathlib.Core.Path.{◌≡◌, refl}
use mathlib.Core.List.{List}
use Prim.Native.Nat.{ℕ, ◌+◌, ◌*◌, ◌<◌}
use native.Mathlib.Numerals.{add-one}
use lib.ListN.{get_or, take}
use lib.Seq.{get_or-take}
use Rattle.flows.specs.Sums.{sum}
use Rattle.flows.specs.Network.{link, no_link, count, WellFormed}
use Rattle.flows.specs.Network as model
use Rattle.flows.specs.Cut.{slack_of, slack, counted, bound}
use Rattle.network.specs.declared.Network.{Network}
use Rattle.network.specs.Held.{link_at, model_of}
use Rattle.network.proofs.Links.{start_is, end_is, capacity_is, transit_is, start_in, end_in}

-- the bound over the links below n
unfoldable pub bound_below : model.Network → List ℕ → ℕ → ℕ
bound_below N π n = sum (λ e. (link N e).capacity * counted (slack N π e)) n

pub bound_none : (N : model.Network) (π : List ℕ) → bound_below N π 0 ≡ 0
unfolding bound_below
bound_none N π = refl

pub bound_all : (N : model.Network) (π : List ℕ) → bound_below N π (count N) ≡ bound N π
unfolding bound_below bound
bound_all N π = refl

module _ (net : Network) (cut : List ℕ) (formed : WellFormed (model_of net)) (e : ℕ) (below : e < net.count) where
  slack_is : slack (model_of net) (take net.places cut) e
      ≡ slack_of (get_or cut (link_at net e).end 0) (get_or cut (link_at net e).start 0) (link_at net e).transit
  unfolding slack
  slack_is =
      rw (
        start_is net e below,
        end_is net e below,
        transit_is net e below,
        get_or-take net.places cut (link_at net e).end 0 (end_in net e below formed),
        get_or-take net.places cut (link_at net e).start 0 (start_in net e below formed),
      )

  -- link e adds what the code adds
  pub bound_more : bound_below (model_of net) (take net.places cut) (e + 1)
      ≡ bound_below (model_of net) (take net.places cut) e
      + (link_at net e).capacity
      * counted (slack_of (get_or cut (link_at net e).end 0) (get_or cut (link_at net e).start 0) (link_at net e).transit)
  unfolding bound_below
  bound_more = rw (add-one, ← capacity_is net e below, ← slack_is)
