-- A link's slack, counted, is the truncated difference of the numbers at its ends: a difference of whole numbers, counted, is the
-- truncated one. Assumes nothing.
use mathlib.Core.Path.{◌≡◌, refl, sym, ap, ◌∙◌}
use mathlib.Core.Bool.{Bool, true, false, cond}
use mathlib.Core.List.{List}
use Prim.Native.Nat.{ℕ, zero, suc, ◌+◌, ◌-◌, ◌<◌}
use native.Mathlib.Omega.{arith}
use lib.Dec.{T, ltb, ltb→lt}
use lib.IntN.{ℤ, pos, negsuc, ◌-ℤ◌, ◌+ℤ◌, neg_ℤ, sub_ℕ, +ℤ_assoc, neg_ℤ-+ℤ}
use Rattle.flows.specs.Network.{Network, link}
use Rattle.flows.specs.Cut.{number, slack_of, counted, slack}

counted_subℕ : (a b : ℕ) → counted (sub_ℕ a b) ≡ a - b
counted_subℕ a b = go (ltb a b) (ltb→lt a b)
  where
    go : (t : Bool) → (T t → a < b) → counted (cond t (negsuc (b - suc a)) (pos (a - b))) ≡ a - b
    go true p = omega (arith, p tt)
    go false p = refl

pub counted_difference : (a b : ℕ) → counted (pos a -ℤ pos b) ≡ a - b
counted_difference a zero = omega arith
counted_difference a (suc b) = counted_subℕ a (suc b)

pub counted_slack_of : (end start transit : ℕ) → counted (slack_of end start transit) ≡ end - (start + transit)
counted_slack_of a b c =
    ap counted (+ℤ_assoc (pos a) (neg_ℤ (pos b)) (neg_ℤ (pos c)) ∙ ap (λ (k : ℤ). pos a +ℤ k) (sym (neg_ℤ-+ℤ (pos b) (pos c))))
    ∙ counted_difference a (b + c)

pub counted_slack : (N : Network) (π : List ℕ) (e : ℕ)
    → counted (slack N π e) ≡ number π (link N e).end - (number π (link N e).start + (link N e).transit)
unfolding slack
counted_slack N π e = counted_slack_of (number π (link N e).end) (number π (link N e).start) (link N e).transit
