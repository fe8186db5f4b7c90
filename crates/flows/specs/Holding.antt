-- "No holding at the relays" (document 02): "a block must leave a middle place in the very slot in which it arrives". Flows that hold
-- nothing, and the least horizon and the most over such flows alone. A middle place is any but the origin and the archive.
use Rattle.std.specs.Prelude.{◌≡◌, ◌≢◌, cond, ℕ, ◌-◌, ◌≤◌, ◌<◌, leb}
use Rattle.flows.specs.Network.{Network, link, out, into}
use Rattle.flows.specs.Flow.{IsFlow, delivered}

-- blocks that leave the place v in slot s
abbrev pub leaving : Network → (ℕ → ℕ → ℕ) → ℕ → ℕ → ℕ
leaving N f v s = out N (λ e. f e s) v

-- blocks that arrive at the place v in slot s: they entered a transit earlier, if there was a slot then
abbrev pub arriving : Network → (ℕ → ℕ → ℕ) → ℕ → ℕ → ℕ
arriving N f v s = into N (λ e. cond (leb (link N e).transit s) (f e (s - (link N e).transit)) 0) v

-- a flow with horizon T that holds nothing: in each of its slots there leave each middle place as many blocks as arrive at it
pub record Unheld (N : Network) (T : ℕ) (f : ℕ → ℕ → ℕ) : Type 0 where
  pub flow : IsFlow N T f
  pub passes : (v s : ℕ) → v < N.places → v ≢ N.origin → v ≢ N.destination → s < T → leaving N f v s ≡ arriving N f v s

-- some flow with horizon T that holds nothing delivers the amount
pub record DeliversUnheld (N : Network) (T amount : ℕ) : Type 0 where
  pub entries : ℕ → ℕ → ℕ
  pub unheld : Unheld N T entries
  pub enough : amount ≤ delivered N T entries

-- "the least horizon when a block must leave a middle place in the very slot in which it arrives"
pub record LeastUnheld (N : Network) (amount T : ℕ) : Type 0 where
  pub attained : DeliversUnheld N T amount
  pub least : (H : ℕ) (f : ℕ → ℕ → ℕ) → H < T → Unheld N H f → delivered N H f < amount

-- "the same .. of the most by a horizon"
pub record MostUnheld (N : Network) (H most : ℕ) : Type 0 where
  pub attained : DeliversUnheld N H most
  pub exceeded_by_none : (f : ℕ → ℕ → ℕ) → Unheld N H f → delivered N H f ≤ most
