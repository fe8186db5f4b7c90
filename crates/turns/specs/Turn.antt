-- One turn of taking a static flow apart: a route over links that have blocks left, the most that can go over it in each slot, and what
-- is left when that is taken off.
use Rattle.std.specs.Prelude.{◌≡◌, List, [], ◌∷◌, ℕ, ◌-◌, ◌*◌, ◌≤◌, min, length, set}
use Rattle.limits.specs.Limits.{most_links}
use Rattle.routes.specs.declared.Route.{Route}
use Rattle.routes.specs.Route.{links_of}
use Rattle.statics.specs.Static.{on_link}
use Rattle.statics.specs.Reach.{uses}

-- the least of m and of what the links es have (the bottleneck)
abbrev pub least_on : List ℕ → ℕ → List ℕ → ℕ
least_on x m [] = m
least_on x m (e ∷ es) = least_on x (min m (on_link x e)) es

-- x with b blocks taken off each of the links es
abbrev pub lessened : List ℕ → ℕ → List ℕ → List ℕ
lessened x b [] = x
lessened x b (e ∷ es) = lessened (set x e (on_link x e - b)) b es

-- each link has the blocks that are to be taken off it
abbrev pub Holds : List ℕ → ℕ → List ℕ → Type 0
Holds x b es = (e : ℕ) → uses es e * b ≤ on_link x e

-- what taking blocks off a route asks for
pub record Takeable (x : List ℕ) (route : Route) (rate : ℕ) : Type 0 where
  pub size : length x ≡ most_links
  pub holds : Holds x rate (links_of route)
