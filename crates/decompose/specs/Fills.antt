-- Filling a plan from a static flow: what is asked for, and the plan that comes of it.
use Rattle.std.specs.Prelude.{◌≡◌, List, ℕ, ◌+◌, ◌*◌, ◌≤◌, length, take}
use Rattle.limits.specs.Limits.{least_amount, most_amount, least_plan_horizon, longest_plan_horizon, most_cut_number}
use Rattle.flows.specs.Network.{Network, count}
use Rattle.flows.specs.Cut.{number}
use Rattle.flows.specs.Plan.{Plan}
use Rattle.plans.specs.InLimits.{Within, InLimits}
use Rattle.plans.specs.Held.{model_of}
use Rattle.plans.specs.WritablePlan.{Countable}
use Rattle.plans.specs.declared.Row.{Row}
use Rattle.plans.specs.declared.Plan as struct
use Rattle.statics.specs.Static.{cost, StaticFlow}
use Rattle.decompose.specs.Decomposed.{Decomposed}

-- a static flow x of value v that, repeated in every slot, brings the amount a within as many slots
pub record Fillable (N : Network) (x : List ℕ) (v a slots : ℕ) : Type 0 where
  pub static : StaticFlow N x v
  pub enough : a + cost N x ≤ slots * v
  pub amount : Within least_amount most_amount a
  pub few : slots ≤ most_cut_number

-- a plan for the amount a and the horizon T: its cut the potentials, its rows the flow taken apart
pub record Fills (N : Network) (x π : List ℕ) (a slots T : ℕ) (p : Plan) : Type 0 where
  pub amount : p.amount ≡ a
  pub horizon : p.horizon ≡ T
  pub cut : p.cut ≡ take N.places π
  pub rows : Decomposed N x a slots p.rows
  pub limits : InLimits N.places (count N) p

-- a horizon T and potentials π that a plan may have
pub record Framed (N : Network) (π : List ℕ) (T : ℕ) : Type 0 where
  pub horizon : Within least_plan_horizon longest_plan_horizon T
  pub size : N.places ≤ length π
  pub potentials : (u : ℕ) → number π u ≤ most_cut_number

-- the plan with these rows, n of which count
abbrev pub plan_of : ℕ → ℕ → List ℕ → ℕ → List Row → struct.Plan
plan_of a T π n rows = record { amount = a; horizon = T; cut = π; count = n; rows = rows }

-- the rows that are stored, and how many, make such a plan with any of them
pub record Filled (N : Network) (places : ℕ) (x : List ℕ) (a slots : ℕ) (rows : List Row) (n : ℕ) : Type 0 where
  pub fills : (T : ℕ) (π : List ℕ) → Framed N π T → Fills N x π a slots T (model_of places (plan_of a T π n rows))
  pub countable : (T : ℕ) (π : List ℕ) → Countable (plan_of a T π n rows)
