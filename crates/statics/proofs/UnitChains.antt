-- A static flow of value v is the sum of v chains, and blocks that go in circles: from a place with a block to send on some link with
-- a block leads on, and taking one block from it moves the block to its end, until the destination is reached. Assumes nothing.
use mathlib.Core.Path.{◌≡◌, refl, sym, ap, subst, ◌∙◌}
use mathlib.Core.Logic.{◌≢◌}
use mathlib.Core.List.{List, [], ◌∷◌}
use Prim.Native.Nat.{ℕ, zero, suc, ◌+◌, ◌-◌, ◌≤◌, ◌<◌, zero-le}
use native.Mathlib.Nat.{le_refl}
use native.Mathlib.Numerals.{add-one}
use native.Mathlib.Omega.{arith}
use native.Mathlib.Decide.{ℕ_discrete}
use lib.ListN.{length}
use Rattle.flows.specs.Lists.{All}
use Rattle.flows.specs.Sums.{sum, only}
use Rattle.flows.specs.Network.{Network, link, count}
use Rattle.flows.specs.Rows.{Leads, IsChain}
use Rattle.flows.proofs.Sums.{sum_eq, sum_add, sum_only, only_same, only_other, gather_pos}
use Rattle.statics.specs.Static.{Balances}
use Rattle.statics.specs.Reach.{uses}
use Rattle.statics.proofs.Balance.{balances_less, balances_arrive, balances_part}

-- one block less on the link l
unfoldable without : ℕ → (ℕ → ℕ) → ℕ → ℕ
without l x e = x e - only l e 1

without_add : (l : ℕ) (x : ℕ → ℕ) → 0 < x l → (e : ℕ) → x e ≡ without l x e + only l e 1
unfolding without
without_add l x p e =
    elim (ℕ_discrete l e) [
      | yes h ↦ omega (arith, ap x h, ap (λ (i : ℕ). only l i 1) h, only_same l 1)
      | no h ↦ omega (arith, only_other l e 1 h)
    ]

sum_without : (l : ℕ) (x : ℕ → ℕ) (n : ℕ) → l < n → 0 < x l → sum x n ≡ sum (without l x) n + 1
sum_without l x n p q =
    sum_eq n (λ e h. without_add l x q e)
    ∙ sum_add (without l x) (λ e. only l e 1) n
    ∙ ap (λ (s : ℕ). sum (without l x) n + s) (sum_only (λ e. 1) l n p)

-- a chain from u to the destination, taken from x, and what it leaves
record UnitChain (N : Network) (x : ℕ → ℕ) (a u : ℕ) : Type 0 where
  chain : List ℕ
  rest : ℕ → ℕ
  leads : Leads N u N.destination chain
  parts : (e : ℕ) → uses chain e + rest e ≡ x e
  balance : Balances N rest a N.origin 0

-- a place with a block to send on has a link to follow
follow : (N : Network) (x : ℕ → ℕ) (a u : ℕ) → Balances N x a u 1 → N.destination ≢ u
    → (l : ℕ) × (l < count N) × ((link N l).start ≡ u) × (0 < x l)
follow N x a u h d =
    gather_pos (λ e. (link N e).start) (count N) x u (omega (arith, h u, only_same u 1, only_other N.destination u (a + 1) d))

-- a chain from the end of the link l goes on a chain from its start
step : {N : Network} {x : ℕ → ℕ} {a u : ℕ} (l : ℕ) → l < count N → (link N l).start ≡ u → 0 < x l
    → UnitChain N (without l x) a (link N l).end → UnitChain N x a u
step {N} {x} {a} {u} l p s q w =
    record {
      chain = l ∷ w.chain;
      rest = w.rest;
      leads = (p, s, w.leads);
      parts = λ e. omega (arith, w.parts e, without_add l x q e);
      balance = w.balance;
    }

-- every step takes a block, so the blocks on all links bound the steps
unit_chain : (N : Network) (a fuel : ℕ) (x : ℕ → ℕ) (u : ℕ) → sum x (count N) < fuel → Balances N x a u 1 → UnitChain N x a u
unit_chain N a zero x u p h = absurd (omega arith)
unit_chain N a (suc fuel) x u p h =
    elim (ℕ_discrete N.destination u) [
      | yes d ↦ record { chain = []; rest = x; leads = sym d; parts = λ e. omega arith; balance = balances_arrive N x a 1 (subst (λ (t : ℕ). Balances N x a t 1) (sym d) h) }
      | no d ↦
          let r = follow N x a u h d in
          step r.0 r.1 r.2 r.3
          (unit_chain N a fuel (without r.0 x) (link N r.0).end (omega (arith, sum_without r.0 x (count N) r.1 r.3))
          (balances_less N (without r.0 x) x r.0 1 r.1 (λ e i. without_add r.0 x r.3 e) a (rw r.2 h)))
    ]

abbrev pub uses_all : List (List ℕ) → ℕ → ℕ
uses_all [] e = 0
uses_all (c ∷ cs) e = uses c e + uses_all cs e

pub record UnitChains (N : Network) (x : ℕ → ℕ) (v : ℕ) : Type 0 where
  pub chains : List (List ℕ)
  pub many : length chains ≡ v
  pub lead : All (IsChain N) chains
  pub within : (e : ℕ) → uses_all chains e ≤ x e

-- one block after another goes from the origin
pub unit_chains : (N : Network) (x : ℕ → ℕ) (v : ℕ) → Balances N x v N.origin 0 → UnitChains N x v
unit_chains N x zero h = record { chains = []; many = refl; lead = tt; within = λ e. zero-le }
unit_chains N x (suc v) h =
    let w = unit_chain N v (suc (sum x (count N))) x N.origin (le_refl _) (balances_part N x v 1 (rw add-one h)) in
    let r = unit_chains N w.rest v w.balance in
    record {
      chains = w.chain ∷ r.chains;
      many = ap suc r.many;
      lead = (w.leads, r.lead);
      within = λ e. omega (arith, w.parts e, r.within e);
    }
