-- A static flow: a number of blocks for each link, that enter it in every slot alike. Its value is what reaches the destination in
-- a slot, its cost the blocks that are under way. In the field's terms: a static flow, balanced at each node, and complementary
-- slackness between it and potentials.
use Rattle.std.specs.Prelude.{◌≡◌, List, ℕ, ◌+◌, ◌*◌, ◌≤◌, ◌<◌, get_or}
use Rattle.flows.specs.Sums.{sum, only}
use Rattle.flows.specs.Network.{Network, link, count, out, into}
use Rattle.flows.specs.Cut.{number}

-- the blocks on a link: the list may be longer than the links are many, and what stands past them does not matter
abbrev pub on_link : List ℕ → ℕ → ℕ
on_link x e = get_or x e 0

-- the blocks under way: each link holds its transit times what enters it in a slot
unfoldable pub cost : Network → List ℕ → ℕ
cost N x = sum (λ e. (link N e).transit * on_link x e) (count N)

-- a blocks go from the origin, and b blocks from the place w, to the destination: at each place what leaves, with a + b at the
-- destination, is what arrives, with a at the origin and b at w. The blocks on a link are any function of its number.
abbrev pub Balances : Network → (ℕ → ℕ) → ℕ → ℕ → ℕ → Type 0
Balances N x a w b = (u : ℕ) → out N x u + only N.destination u (a + b) ≡ into N x u + only N.origin u a + only w u b

-- the same of a list
abbrev pub Balanced : Network → List ℕ → ℕ → ℕ → ℕ → Type 0
Balanced N x a w b = Balances N (on_link x) a w b

-- a static flow x of value v: at each place as much leaves as arrives, but v more at the origin and v less at the destination; and
-- no link has more than its capacity
pub record StaticFlow (N : Network) (x : List ℕ) (v : ℕ) : Type 0 where
  pub within : (e : ℕ) → e < count N → on_link x e ≤ (link N e).capacity
  pub balanced : Balanced N x v N.origin 0

-- complementary slackness: a link that is not full has no slack above zero, a link that is used none below zero. So every
-- residual arc has a reduced cost of at least 0.
pub record Slackness (N : Network) (x π : List ℕ) : Type 0 where
  pub room : (e : ℕ) → e < count N → on_link x e < (link N e).capacity
      → number π (link N e).end ≤ number π (link N e).start + (link N e).transit
  pub used : (e : ℕ) → e < count N → 0 < on_link x e
      → number π (link N e).start + (link N e).transit ≤ number π (link N e).end
