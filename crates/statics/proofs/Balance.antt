-- Balance is kept by moves along one link: what the link gains at its ends is what the moved blocks lose there, so the proofs
-- never ask which places coincide; weights on the places are carried over to the links by exchange of sums. Assumes nothing.
use mathlib.Core.Path.{◌≡◌, sym, ap, ◌∙◌}
use mathlib.Core.Logic.{◌≢◌}
use mathlib.Core.List.{List}
use Prim.Native.Nat.{ℕ, ◌+◌, ◌-◌, ◌*◌, ◌≤◌, ◌<◌}
use native.Mathlib.Nat.{add-zero, add-mul}
use native.Mathlib.Omega.{arith}
use native.Mathlib.Decide.{ℕ_discrete, dec_lt}
use lib.ListN.{length, set, replicate}
use lib.Seq.{get_or-set_same, get_or-set_other, set_out}
use Rattle.flows.specs.Sums.{sum, only, gather}
use Rattle.flows.specs.Network.{Network, link, count, out, into, Connects}
use Rattle.flows.proofs.Sums.{sum_eq, sum_add, sum_only, only_same, only_other, only_zero, only_add, only_scale, gather_eq, gather_zero, gather_add, gather_one, gather_weigh}
use Rattle.flows.proofs.Lists.{get_or_zeros}
use Rattle.statics.specs.Static.{on_link, Balances, Balanced, StaticFlow}

-- y is x with b more on the link l
module _ (N : Network) (x y : ℕ → ℕ) (l b : ℕ) (p : l < count N) (more : (e : ℕ) → e < count N → y e ≡ x e + only l e b) where
  gather_more : (at : ℕ → ℕ) (u : ℕ) → gather at (count N) y u ≡ gather at (count N) x u + only (at l) u b
  gather_more at u =
      gather_eq at (count N) u more
      ∙ gather_add at (count N) x (λ e. only l e b) u
      ∙ ap (λ (s : ℕ). gather at (count N) x u + s) (gather_one at (count N) l (λ e. b) u p)

  pub balances_more : (a : ℕ) → Balances N x a (link N l).end b → Balances N y a (link N l).start b
  balances_more a h u = omega (arith, h u, gather_more (λ e. (link N e).start) u, gather_more (λ e. (link N e).end) u)

  pub balances_less : (a : ℕ) → Balances N y a (link N l).start b → Balances N x a (link N l).end b
  balances_less a h u = omega (arith, h u, gather_more (λ e. (link N e).start) u, gather_more (λ e. (link N e).end) u)

-- two lists that agree but on the link l, where the second has b more
differ_on : (x y : List ℕ) (l b : ℕ) → on_link y l ≡ on_link x l + b → ((e : ℕ) → e ≢ l → on_link y e ≡ on_link x e)
    → (e : ℕ) → on_link y e ≡ on_link x e + only l e b
differ_on x y l b q r e =
    elim (ℕ_discrete e l) [
      | yes h ↦ rw (h, only_same) q
      | no h ↦ omega (arith, r e h, only_other l e b (λ k. h (sym k)))
    ]

module _ (x : List ℕ) (l b : ℕ) (q : l < length x) where
  pub set_more : (e : ℕ) → on_link (set x l (on_link x l + b)) e ≡ on_link x e + only l e b
  set_more =
      differ_on x (set x l (on_link x l + b)) l b (get_or-set_same x l (on_link x l + b) 0 q) (λ e h. get_or-set_other x l e (on_link x l + b) 0 h)

  pub set_less : b ≤ on_link x l → (e : ℕ) → on_link x e ≡ on_link (set x l (on_link x l - b)) e + only l e b
  set_less f =
      differ_on (set x l (on_link x l - b)) x l b
      (omega (arith, get_or-set_same x l (on_link x l - b) 0 q))
      (λ e h. sym (get_or-set_other x l e (on_link x l - b) 0 h))

-- the moves: b blocks that stand at w go back over a link to w, which then has b more, or on over a link from w, which has b less
module _ (N : Network) (x : List ℕ) (a w b l : ℕ) (p : l < count N) (q : l < length x) where
  pub balanced_add : (link N l).end ≡ w → Balanced N x a w b → Balanced N (set x l (on_link x l + b)) a (link N l).start b
  balanced_add e h =
      balances_more N (on_link x) (on_link (set x l (on_link x l + b))) l b p (λ i r. set_more x l b q i) a (rw e h)

  pub balanced_take : b ≤ on_link x l → (link N l).start ≡ w → Balanced N x a w b → Balanced N (set x l (on_link x l - b)) a (link N l).end b
  balanced_take f e h =
      balances_less N (on_link (set x l (on_link x l - b))) (on_link x) l b p (λ i r. set_less x l b q f i) a (rw e h)

-- the first and the last of the moves, both ways
module _ (N : Network) (x : ℕ → ℕ) (a b : ℕ) where
  with_more : (u : ℕ) → only N.destination u (a + b) ≡ only N.destination u (a + 0) + only N.destination u b
  with_more u = rw add-zero (only_add N.destination u a b)

  -- b blocks at the destination are there already
  pub balances_begin : Balances N x a N.origin 0 → Balances N x a N.destination b
  balances_begin h u = omega (arith, h u, with_more u, only_zero N.origin u)

  pub balances_arrive : Balances N x a N.destination b → Balances N x a N.origin 0
  balances_arrive h u = omega (arith, h u, with_more u, only_zero N.origin u)

  together : (u : ℕ) → only N.origin u (a + b) + only N.origin u 0 ≡ only N.origin u a + only N.origin u b
  together u = omega (arith, only_add N.origin u a b, only_zero N.origin u)

  -- b blocks at the origin go with the a
  pub balances_join : Balances N x a N.origin b → Balances N x (a + b) N.origin 0
  balances_join h u = rw (add-zero (a + b)) (omega (arith, h u, together u))

  pub balances_part : Balances N x (a + b) N.origin 0 → Balances N x a N.origin b
  balances_part h u = omega (arith, rw (add-zero (a + b)) at (h u), together u)

-- the flow of nothing
module _ (N : Network) (x : List ℕ) (z : (e : ℕ) → e < count N → on_link x e ≡ 0) where
  nothing : (at : ℕ → ℕ) (u : ℕ) → gather at (count N) (on_link x) u ≡ 0
  nothing at u = gather_eq at (count N) u z ∙ gather_zero at (count N) u

  pub zero_flow : StaticFlow N x 0
  zero_flow =
      record {
        within = λ e p. omega (arith, z e p);
        balanced = λ u. omega (
          arith,
          nothing (λ e. (link N e).start) u,
          nothing (λ e. (link N e).end) u,
          only_zero N.origin u,
          only_zero N.destination u,
        );
      }

pub on_link_zeros : (n e : ℕ) → on_link (replicate n 0) e ≡ 0
on_link_zeros = get_or_zeros

pub zeros_flow : (N : Network) (n : ℕ) → StaticFlow N (replicate n 0) 0
zeros_flow N n = zero_flow N (replicate n 0) (λ e p. on_link_zeros n e)

-- weights on the places
module _ (N : Network) (p : ℕ → ℕ) where
  weigh_place : (a x : ℕ) → a < N.places → sum (λ u. only a u x * p u) N.places ≡ x * p a
  weigh_place a x q = sum_eq N.places (λ u r. sym (only_scale a u x (p u))) ∙ sum_only (λ u. x * p u) a N.places q

  module _ (x : ℕ → ℕ) (a w b : ℕ) (h : Balances N x a w b) where
    weigh_balance : (u : ℕ) → out N x u * p u + only N.destination u (a + b) * p u
        ≡ into N x u * p u + only N.origin u a * p u + only w u b * p u
    weigh_balance u = rw (← add-mul, ← add-mul, ← add-mul) (ap (λ (t : ℕ). t * p u) (h u))

    -- what the links take from their starts and the destination takes, weighed, is what they bring to their ends and the origin
    -- and w give
    pub weighted : Connects N → w < N.places
        → sum (λ e. x e * p (link N e).start) (count N) + (a + b) * p N.destination
        ≡ sum (λ e. x e * p (link N e).end) (count N) + a * p N.origin + b * p w
    weighted connects q =
        omega (
          arith,
          sum_eq N.places (λ u r. weigh_balance u),
          sum_add (λ u. out N x u * p u) (λ u. only N.destination u (a + b) * p u) N.places,
          sum_add (λ u. into N x u * p u + only N.origin u a * p u) (λ u. only w u b * p u) N.places,
          sum_add (λ u. into N x u * p u) (λ u. only N.origin u a * p u) N.places,
          gather_weigh (λ e. (link N e).start) (count N) x p N.places connects.start_in,
          gather_weigh (λ e. (link N e).end) (count N) x p N.places connects.end_in,
          weigh_place N.destination (a + b) connects.destination_in,
          weigh_place N.origin a connects.origin_in,
          weigh_place w b q,
        )

pub within_set : (N : Network) (x : List ℕ) (l n : ℕ) → n ≤ (link N l).capacity
    → ((e : ℕ) → e < count N → on_link x e ≤ (link N e).capacity) → (e : ℕ) → e < count N → on_link (set x l n) e ≤ (link N e).capacity
within_set N x l n f h e p =
    elim (dec_lt l (length x)) [
      | yes q ↦ elim (ℕ_discrete e l) [
        | yes i ↦ rw (i, get_or-set_same x l n 0 q) f
        | no i ↦ rw (get_or-set_other x l e n 0 i) (h e p)
      ]
      | no q ↦ rw (set_out x l n (omega arith)) (h e p)
    ]
