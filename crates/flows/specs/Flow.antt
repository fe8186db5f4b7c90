-- "Flow over time" (document 002's conditions CC, FC and DC, over whole blocks), and what it delivers.
-- A flow is any function from link and slot to blocks: f e s blocks enter link e in slot s.
use Rattle.std.specs.Prelude.{◌≡◌, ◌≢◌, ℕ, suc, ◌+◌, ◌-◌, ◌≤◌, ◌<◌}
use Rattle.flows.specs.Sums.{sum}
use Rattle.flows.specs.Clock.{counting}
use Rattle.flows.specs.Network.{Network, link, count, out, into}

-- blocks that entered link e before slot k
abbrev pub entered : (ℕ → ℕ → ℕ) → ℕ → ℕ → ℕ
entered f e k = sum (f e) k

-- blocks that left the place v before slot k
abbrev pub left : Network → (ℕ → ℕ → ℕ) → ℕ → ℕ → ℕ
left N f v k = out N (λ e. entered f e k) v

-- blocks that arrived at the place v before slot k: they entered a transit earlier
abbrev pub arrived : Network → (ℕ → ℕ → ℕ) → ℕ → ℕ → ℕ
arrived N f v k = into N (λ e. entered f e (k - (link N e).transit)) v

-- a flow with horizon T, whose slots are 0 to T - 1
pub record IsFlow (N : Network) (T : ℕ) (f : ℕ → ℕ → ℕ) : Type 0 where
  -- "a whole number of blocks enters, from 0 to the capacity"
  pub within : (e s : ℕ) → e < count N → f e s ≤ (link N e).capacity
  -- "entries happen only where entry slot + transit is at most T - 1"
  pub inside : (e s : ℕ) → e < count N → counting T ≤ s + (link N e).transit → f e s ≡ 0
  -- "at each place other than the origin, and for each slot, blocks that have left up to that slot are never more than blocks
  -- that have arrived up to it"
  pub conserved : (v s : ℕ) → v < N.places → v ≢ N.origin → s < T → left N f v (suc s) ≤ arrived N f v (suc s)

-- "what has arrived at the archive by slot T - 1 less what has left it"
unfoldable pub delivered : Network → ℕ → (ℕ → ℕ → ℕ) → ℕ
delivered N T f = arrived N f N.destination (counting T) - left N f N.destination (counting T)

-- some flow with horizon T delivers the amount: "delivered is at least that"
pub record Delivers (N : Network) (T amount : ℕ) : Type 0 where
  pub entries : ℕ → ℕ → ℕ
  pub flow : IsFlow N T entries
  pub enough : amount ≤ delivered N T entries

-- "the least horizon for an amount is the smallest with which some flow delivers it"
pub record Least (N : Network) (amount T : ℕ) : Type 0 where
  pub attained : Delivers N T amount
  pub least : (H : ℕ) (f : ℕ → ℕ → ℕ) → H < T → IsFlow N H f → delivered N H f < amount

-- "the most by a horizon is the largest delivered of all flows with it"
pub record Most (N : Network) (H most : ℕ) : Type 0 where
  pub attained : Delivers N H most
  pub exceeded_by_none : (f : ℕ → ℕ → ℕ) → IsFlow N H f → delivered N H f ≤ most
