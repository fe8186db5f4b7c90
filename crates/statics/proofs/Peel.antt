-- A chain taken off a static flow: on its own it is balanced but for its two ends, so what it leaves is a static flow too, of the
-- value and the cost that it leaves. Assumes nothing.
use mathlib.Core.Path.{◌≡◌, ap, subst, ◌∙◌}
use mathlib.Core.List.{List, [], ◌∷◌}
use Prim.Native.Nat.{ℕ, ◌+◌, ◌-◌, ◌*◌, ◌≤◌, ◌<◌}
use native.Mathlib.Nat.{add-mul, mul-add, mul_comm, mul_assoc, mul-le-mul_right, zero-mul}
use native.Mathlib.Omega.{arith}
use Rattle.flows.specs.Sums.{only, gather}
use Rattle.flows.specs.Network.{Network, link, count, out, into}
use Rattle.flows.specs.Rows.{Leads, duration}
use Rattle.flows.proofs.Sums.{sum_eq, sum_add, sum_scale, gather_eq, gather_zero, gather_add, gather_one}
use Rattle.statics.specs.Static.{on_link, cost, Balances, StaticFlow}
use Rattle.statics.specs.Reach.{uses}
use Rattle.statics.specs.Peel.{Peeled}
use Rattle.statics.proofs.Balance.{balances_part, balances_arrive}
use Rattle.statics.proofs.Chains.{uses_cons, duration_sum}

-- b blocks along a chain from u to w
module _ (N : Network) (b p : ℕ) where
  gather_chain : (at : ℕ → ℕ) (l : ℕ) (es : List ℕ) → l < count N
      → gather at (count N) (λ e. uses (l ∷ es) e * b) p ≡ only (at l) p b + gather at (count N) (λ e. uses es e * b) p
  gather_chain at l es q =
      gather_eq at (count N) p (λ e r. uses_cons l es e b)
      ∙ gather_add at (count N) (λ e. only l e b) (λ e. uses es e * b) p
      ∙ ap (λ (t : ℕ). t + gather at (count N) (λ e. uses es e * b) p) (gather_one at (count N) l (λ e. b) p q)

  chain_balance : (es : List ℕ) (u w : ℕ) → Leads N u w es
      → out N (λ e. uses es e * b) p + only w p b ≡ into N (λ e. uses es e * b) p + only u p b
  chain_balance [] u w c =
      let none : (at : ℕ → ℕ) → gather at (count N) (λ e. 0 * b) p ≡ 0 =
      λ at. gather_eq at (count N) p (λ e r. zero-mul b) ∙ gather_zero at (count N) p in
      omega (arith, none (λ e. (link N e).start), none (λ e. (link N e).end), ap (λ (t : ℕ). only t p b) c)
  chain_balance (l ∷ es) u w c =
      omega (
        arith,
        gather_chain (λ e. (link N e).start) l es c.0,
        gather_chain (λ e. (link N e).end) l es c.0,
        chain_balance es (link N l).end w c.2,
        ap (λ (t : ℕ). only t p b) c.1,
      )

-- y has b blocks more than x on each link for each use by the chain
module _ (N : Network) (x y : ℕ → ℕ) (b : ℕ) (es : List ℕ) (more : (e : ℕ) → e < count N → y e ≡ x e + uses es e * b) where
  pub balances_chain : (a u w : ℕ) → Leads N u w es → Balances N y a u b → Balances N x a w b
  balances_chain a u w c h p =
      omega (
        arith,
        h p,
        chain_balance N b p es u w c,
        gather_eq (λ e. (link N e).start) (count N) p more,
        gather_eq (λ e. (link N e).end) (count N) p more,
        gather_add (λ e. (link N e).start) (count N) x (λ e. uses es e * b) p,
        gather_add (λ e. (link N e).end) (count N) x (λ e. uses es e * b) p,
      )

module _ {N : Network} {x y es : List ℕ} {b : ℕ} (peeled : Peeled N y es b x) where
  -- a flow of value v leaves one of value v - b
  pub peel_flow : {v : ℕ} → b ≤ v → StaticFlow N y v → StaticFlow N x (v - b)
  peel_flow {v} p flow =
      let split : v ≡ v - b + b = omega arith in
      record {
        within = λ e q. omega (arith, peeled.taken e q, flow.within e q);
        balanced =
            balances_arrive N (on_link x) (v - b) b
            (balances_chain N (on_link x) (on_link y) b es peeled.taken (v - b) N.origin N.destination peeled.chain
            (balances_part N (on_link y) (v - b) b (subst (λ (t : ℕ). Balances N (on_link y) t N.origin 0) split flow.balanced)));
      }

  peel_link : (e : ℕ) → e < count N
      → (link N e).transit * on_link y e ≡ (link N e).transit * on_link x e + uses es e * (link N e).transit * b
  peel_link e p =
      rw (peeled.taken e p, mul-add, mul_comm (uses es e) (link N e).transit, mul_assoc)

  pub peel_cost : cost N y ≡ cost N x + duration N es * b
  unfolding cost
  peel_cost =
      omega (
        arith,
        sum_eq (count N) peel_link,
        sum_add (λ e. (link N e).transit * on_link x e) (λ e. uses es e * (link N e).transit * b) (count N),
        sum_scale (λ e. uses es e * (link N e).transit) b (count N),
        ap (λ (t : ℕ). t * b) (duration_sum N es N.origin N.destination peeled.chain),
      )

  -- what the flow can still bring with horizon T, when the chain at rate b, for as long as it arrives in time, has brought its blocks
  pub peel_enough : (T v r : ℕ) → b ≤ v → r + cost N y ≤ T * v → r + cost N x ≤ T * (v - b) + (T - duration N es) * b
  peel_enough T v r p h =
      let d : ℕ = duration N es in
      let split : v ≡ v - b + b = omega arith in
      let t : T ≤ T - d + d = omega arith in
      omega (
        arith,
        peel_cost,
        ap (λ (n : ℕ). T * n) split ∙ mul-add T (v - b) b,
        mul-le-mul_right b t,
        add-mul (T - d) d b,
      )
