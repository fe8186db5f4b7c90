-- A flow and a cut prove each other best: no flow with the cut's horizon, and so none with a shorter one, delivers more than the
-- bound. So the verdict 0 alone makes a plan's horizon the least. Assumes nothing.
use mathlib.Core.Path.{◌≡◌}
use mathlib.Core.List.{List}
use Prim.Native.Nat.{ℕ, ◌-◌, ◌≤◌, ◌<◌}
use native.Mathlib.Nat.{le_refl}
use native.Mathlib.Omega.{arith}
use native.Mathlib.Decide.{dec_lt}
use lib.ListN.{length}
use Rattle.flows.specs.Network.{Network, Connects}
use Rattle.flows.specs.Flow.{IsFlow, delivered, Delivers, Least, Most}
use Rattle.flows.specs.Cut.{IsCut, bound}
use Rattle.flows.specs.Rows.{load}
use Rattle.flows.specs.Plan.{Plan, verdict}
use Rattle.flows.proofs.Duality.{weak_duality}
use Rattle.flows.proofs.Longer.{longer, longer_delivers}
use Rattle.flows.proofs.Exact.{verdict_certifies}

-- ---- a flow and a cut

module _ {N : Network} {π : List ℕ} (connects : Connects N) where
  -- no flow with a horizon up to the cut's delivers more than its bound
  pub shorter_bounded : {G : ℕ} → IsCut N G π → (H : ℕ) (f : ℕ → ℕ → ℕ) → H ≤ G → IsFlow N H f → delivered N H f ≤ bound N π
  shorter_bounded {G} cut H f p flow = omega (arith, weak_duality connects (longer flow G p) cut, longer_delivers flow G p)

  pub least_by_cut : {amount T : ℕ} → Delivers N T amount → IsCut N (T - 1) π → bound N π < amount → Least N amount T
  least_by_cut d cut p =
      record { attained = d; least = λ H f q flow. omega (arith, shorter_bounded cut H f (omega arith) flow) }

  pub most_by_cut : {H most : ℕ} → Delivers N H most → IsCut N H π → bound N π ≡ most → Most N H most
  most_by_cut {H} d cut p =
      record { attained = d; exceeded_by_none = λ f flow. omega (arith, shorter_bounded cut H f (le_refl H) flow) }

-- "0 none of these": the horizon is least, whatever the plan's limits but the cut's length
pub verdict_least : {N : Network} (p : Plan) → Connects N → length p.cut ≡ N.places
    → verdict N p ≡ 0 → Least N p.amount p.horizon
verdict_least {N} p connects size v =
    let c = verdict_certifies connects size v in
    let d : Delivers N p.horizon p.amount =
    record { entries = load N p.rows; flow = c.flow; enough = omega (arith, c.delivers) } in
    least_by_cut connects d c.cuts c.proves

-- ---- least and most are one number

pub least_unique : {N : Network} {amount T U : ℕ} → Least N amount T → Least N amount U → T ≡ U
least_unique {T = T} {U = U} a b =
    elim (dec_lt T U) [
      | yes p ↦ absurd (omega (arith, a.attained.enough, b.least T a.attained.entries p a.attained.flow))
      | no p ↦ elim (dec_lt U T) [
        | yes q ↦ absurd (omega (arith, b.attained.enough, a.least U b.attained.entries q b.attained.flow))
        | no q ↦ omega arith
      ]
    ]

pub most_unique : {N : Network} {H m n : ℕ} → Most N H m → Most N H n → m ≡ n
most_unique a b =
    omega (
      arith,
      a.attained.enough,
      b.attained.enough,
      a.exceeded_by_none b.attained.entries b.attained.flow,
      b.exceeded_by_none a.attained.entries a.attained.flow,
    )

-- ---- what is delivered with a horizon is delivered with a longer one, and so is less

pub delivers_longer : {N : Network} {T amount : ℕ} (U : ℕ) → T ≤ U → Delivers N T amount → Delivers N U amount
delivers_longer U p d =
    record { entries = d.entries; flow = longer d.flow U p; enough = omega (arith, d.enough, longer_delivers d.flow U p) }

pub delivers_less : {N : Network} {T amount : ℕ} (less : ℕ) → less ≤ amount → Delivers N T amount → Delivers N T less
delivers_less less p d = record { entries = d.entries; flow = d.flow; enough = omega (arith, d.enough) }
