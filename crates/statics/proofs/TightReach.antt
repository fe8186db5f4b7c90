-- The places that residual arcs of reduced cost 0 reach from the origin: a list of places grows by one outside it as long as such an
-- arc leaves it, which ends since the places outside get fewer; then "1 outside, 0 inside" are distances as far as 1. Assumes nothing.
use mathlib.Core.Path.{◌≡◌, refl, ap, ◌∙◌}
use mathlib.Core.Logic.{◌⊎◌, inl, inr}
use mathlib.Core.List.{List, [], ◌∷◌}
use Prim.Native.Nat.{ℕ, zero, suc, ◌+◌, ◌-◌, ◌≤◌, ◌<◌, min}
use native.Mathlib.Nat.{le_refl}
use native.Mathlib.Omega.{arith}
use native.Mathlib.Decide.{ℕ_discrete, dec_lt, dec_le}
use Rattle.flows.specs.Sums.{sum, only}
use Rattle.flows.specs.Network.{Network, link, count, Connects}
use Rattle.flows.specs.Cut.{number}
use Rattle.flows.proofs.Sums.{sum_eq, sum_add, sum_only, sum_term, only_same, only_other, some_or_all}
use Rattle.statics.specs.Static.{on_link, Slackness}
use Rattle.statics.specs.Potentials.{Tight, Distances}

-- ---- inside and outside

-- 0 if u is the origin o or one of the places ps, else 1
abbrev pub outside : ℕ → List ℕ → ℕ → ℕ
outside o [] u = 1 - only o u 1
outside o (w ∷ ps) u = outside o ps u - only w u 1

pub outside_most : (o : ℕ) (ps : List ℕ) (u : ℕ) → outside o ps u ≤ 1
outside_most o [] u = omega arith
outside_most o (w ∷ ps) u = omega (arith, outside_most o ps u)

pub outside_origin : (o : ℕ) (ps : List ℕ) → outside o ps o ≡ 0
outside_origin o [] = omega (arith, only_same o 1)
outside_origin o (w ∷ ps) = omega (arith, outside_origin o ps)

pub outside_first : (o w : ℕ) (ps : List ℕ) → outside o (w ∷ ps) w ≡ 0
outside_first o w ps = omega (arith, outside_most o ps w, only_same w 1)

-- a place that was outside, and is not, leaves one less outside
outside_less : (o w : ℕ) (ps : List ℕ) → outside o ps w ≡ 1 → (u : ℕ) → outside o ps u ≡ outside o (w ∷ ps) u + only w u 1
outside_less o w ps h u =
    elim (ℕ_discrete w u) [
      | yes e ↦ omega (arith, ap (outside o ps) e, ap (λ (i : ℕ). only w i 1) e, only_same w 1)
      | no q ↦ omega (arith, only_other w u 1 q)
    ]

fewer : (o w n : ℕ) (ps : List ℕ) → outside o ps w ≡ 1 → w < n → sum (outside o ps) n ≡ sum (outside o (w ∷ ps)) n + 1
fewer o w n ps h p =
    sum_eq n (λ u q. outside_less o w ps h u)
    ∙ sum_add (outside o (w ∷ ps)) (λ u. only w u 1) n
    ∙ ap (λ (s : ℕ). sum (outside o (w ∷ ps)) n + s) (sum_only (λ u. 1) w n p)

-- ---- growing

-- a residual arc of reduced cost 0 to the place w, from a place where d is 0
pub data Arc (N : Network) (x π : List ℕ) (d : ℕ → ℕ) (w : ℕ) : Type 0 where
  forward : (e : ℕ) → e < count N → d (link N e).start ≡ 0 → (link N e).end ≡ w → on_link x e < (link N e).capacity → Tight N π e
      → Arc N x π d w
  backward : (e : ℕ) → e < count N → d (link N e).end ≡ 0 → (link N e).start ≡ w → 0 < on_link x e → Tight N π e → Arc N x π d w

-- such an arc that leaves the places where d is 0
pub record Leaving (N : Network) (x π : List ℕ) (d : ℕ → ℕ) : Type 0 where
  pub to : ℕ
  pub known : to < N.places
  pub apart : d to ≡ 1
  pub arc : Arc N x π d to

-- each of the places, the last first, was outside the ones before, and an arc leads to it from them or the origin
abbrev pub Grown : Network → List ℕ → List ℕ → List ℕ → Type 0
Grown N x π [] = Unit {0}
Grown N x π (w ∷ ps) = (outside N.origin ps w ≡ 1) × Arc N x π (outside N.origin ps) w × Grown N x π ps

-- what distances as far as 1 ask of a link: of a forward arc over it, and of a backward one
abbrev Ahead : Network → List ℕ → (ℕ → ℕ) → ℕ → Type 0
Ahead N π d e =
    min (d (link N e).end) 1 + number π (link N e).end ≤ min (d (link N e).start) 1 + (number π (link N e).start + (link N e).transit)

abbrev Back : Network → List ℕ → (ℕ → ℕ) → ℕ → Type 0
Back N π d e =
    min (d (link N e).start) 1 + (number π (link N e).start + (link N e).transit) ≤ min (d (link N e).end) 1 + number π (link N e).end

-- where d is 0 or 1: a residual arc along which it grows by more than the reduced cost has the reduced cost 0, and leaves
module _ {N : Network} {x π : List ℕ} (connects : Connects N) (slackness : Slackness N x π) (d : ℕ → ℕ) (most : (u : ℕ) → d u ≤ 1) where
  ahead : (e : ℕ) → e < count N → Leaving N x π d ⊎ (on_link x e < (link N e).capacity → Ahead N π d e)
  ahead e p =
      let s : ℕ = (link N e).start in
      let t : ℕ = (link N e).end in
      elim (dec_lt (on_link x e) (link N e).capacity) [
        | yes room ↦
            let law = slackness.room e p room in
            elim (dec_le (min (d t) 1 + number π t) (min (d s) 1 + (number π s + (link N e).transit))) [
              | yes h ↦ inr (λ r. h)
              | no h ↦ inl record {
                to = t;
                known = connects.end_in e p;
                apart = omega (arith, most t);
                arc = forward e p (omega (arith, most t)) refl room (omega (arith, most t));
              }
            ]
        | no full ↦ inr (λ r. absurd (full r))
      ]

  back : (e : ℕ) → e < count N → Leaving N x π d ⊎ (0 < on_link x e → Back N π d e)
  back e p =
      let s : ℕ = (link N e).start in
      let t : ℕ = (link N e).end in
      elim (dec_lt 0 (on_link x e)) [
        | yes used ↦
            let law = slackness.used e p used in
            elim (dec_le (min (d s) 1 + (number π s + (link N e).transit)) (min (d t) 1 + number π t)) [
              | yes h ↦ inr (λ r. h)
              | no h ↦ inl record {
                to = s;
                known = connects.start_in e p;
                apart = omega (arith, most s);
                arc = backward e p (omega (arith, most s)) refl used (omega (arith, most s));
              }
            ]
        | no unused ↦ inr (λ r. absurd (unused r))
      ]

  -- an arc leaves, or d, if it is 1 at the destination, are distances as far as 1
  leaving_or_distances : d N.origin ≡ 0 → Leaving N x π d ⊎ (d N.destination ≡ 1 → Distances N x π d 1)
  leaving_or_distances z =
      elim (some_or_all (count N) ahead) [
        | inl l ↦ inl l
        | inr a ↦ elim (some_or_all (count N) back) [
          | inl l ↦ inl l
          | inr b ↦ inr (λ far. record { from_origin = z; to_destination = omega arith; forward = a; backward = b })
        ]
      ]

-- ---- grown as far as it goes

pub record Reached (N : Network) (x π : List ℕ) : Type 0 where
  pub places : List ℕ
  pub grown : Grown N x π places
  pub ends : outside N.origin places N.destination ≡ 1 → Distances N x π (outside N.origin places) 1

module _ {N : Network} {x π : List ℕ} (connects : Connects N) (slackness : Slackness N x π) where
  further : (ps : List ℕ) → Leaving N x π (outside N.origin ps)
      ⊎ (outside N.origin ps N.destination ≡ 1 → Distances N x π (outside N.origin ps) 1)
  further ps =
      leaving_or_distances connects slackness (outside N.origin ps) (outside_most N.origin ps) (outside_origin N.origin ps)

  grow : (fuel : ℕ) (ps : List ℕ) → sum (outside N.origin ps) N.places ≤ fuel → Grown N x π ps → Reached N x π
  grow zero ps p g =
      elim (further ps) [
        | inl l ↦ absurd (omega (arith, l.apart, sum_term (outside N.origin ps) N.places l.to l.known))
        | inr h ↦ record { places = ps; grown = g; ends = h }
      ]
  grow (suc fuel) ps p g =
      elim (further ps) [
        | inl l ↦ grow fuel (l.to ∷ ps) (omega (arith, fewer N.origin l.to N.places ps l.apart l.known)) (l.apart, l.arc, g)
        | inr h ↦ record { places = ps; grown = g; ends = h }
      ]

  pub reached : Reached N x π
  reached = grow (sum (outside N.origin []) N.places) [] (le_refl _) tt
