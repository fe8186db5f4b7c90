-- The rows of a turn over a route, as they are stored.
use Rattle.std.specs.Prelude.{◌≡◌, List, ℕ, ◌+◌, min, set}
use Rattle.plans.specs.declared.Row as plans
use Rattle.portions.specs.declared.Portion.{Portion}
use Rattle.routes.specs.declared.Route.{Route}

-- a row over a route of this length
abbrev pub row_along : Route → ℕ → ℕ → ℕ → ℕ → plans.Row
row_along route length rate first departures = record {
  links = route.links;
  count = route.count;
  length = length;
  rate = rate;
  first = first;
  departures = departures;
}

-- the rows of a turn are stored from row n on: one for the departures at the whole rate, one for the last blocks, and the answer counts those
-- that have any blocks
pub record TurnStored (before : List plans.Row) (n : ℕ) (route : Route) (length rate : ℕ) (s : Portion) (after : List plans.Row) (r : ℕ) : Type 0 where
  pub rows : after
      ≡ set (set before n (row_along route length rate 0 s.departures)) (n + min 1 s.departures)
      (row_along route length s.last s.departures 1)
  pub counted : r ≡ n + min 1 s.departures + min 1 s.last
