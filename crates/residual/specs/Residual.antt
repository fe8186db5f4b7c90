-- The residual network of a static flow. Link e gives two arcs: arc 2 e along the link, which can carry what the capacity leaves, and
-- arc 2 e + 1 against it, which can carry what flows now.
use Rattle.std.specs.Prelude.{Bool, cond, List, ℕ, ◌-◌, ◌/◌, ◌%◌, eqb, ℤ, pos, neg_ℤ, ◌+ℤ◌, ◌-ℤ◌}
use Rattle.flows.specs.Network.{Network, link}
use Rattle.flows.specs.Cut.{number, counted}
use Rattle.statics.specs.Static.{on_link}

abbrev pub link_of : ℕ → ℕ
link_of a = a / 2

abbrev pub along : ℕ → Bool
along a = eqb (a % 2) 0

-- where an arc begins, and where it ends
unfoldable pub tail : Network → ℕ → ℕ
tail N a = cond (along a) (link N (link_of a)).start (link N (link_of a)).end

unfoldable pub head : Network → ℕ → ℕ
head N a = cond (along a) (link N (link_of a)).end (link N (link_of a)).start

-- how much more an arc can carry (its residual capacity)
unfoldable pub room : Network → List ℕ → ℕ → ℕ
room N x a = cond (along a) ((link N (link_of a)).capacity - on_link x (link_of a)) (on_link x (link_of a))

-- an arc's transit: a link's, negated against the link
unfoldable pub arc_transit : Network → ℕ → ℤ
arc_transit N a = cond (along a) (pos (link N (link_of a)).transit) (neg_ℤ (pos (link N (link_of a)).transit))

-- an arc's reduced cost under potentials: its transit, and the potential of its tail less that of its head
abbrev pub cost_of : ℕ → ℕ → ℤ → ℤ
cost_of tail head transit = transit +ℤ (pos tail -ℤ pos head)

unfoldable pub reduced_cost : Network → List ℕ → ℕ → ℤ
reduced_cost N π a = cost_of (number π (tail N a)) (number π (head N a)) (arc_transit N a)

-- the reduced cost of an arc with room, which slackness keeps from being negative
unfoldable pub arc_cost : Network → List ℕ → ℕ → ℕ
arc_cost N π a = counted (reduced_cost N π a)
