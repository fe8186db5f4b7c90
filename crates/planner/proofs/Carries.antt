-- "A plan written by the planner carries the record it was planned for": read off the promise, for every record, amount and buffer. Assumes
-- nothing.
use mathlib.Core.Path.{◌≡◌, sym, subst}
use mathlib.Core.Logic.{inl, inr}
use mathlib.Core.List.{List}
use Prim.Native.Nat.{ℕ}
use native.Mathlib.Omega.{arith}
use lib.ListN.{length, take}
use Rattle.std.specs.Prelude.{Result, Ok, Err}
use Rattle.refusals.specs.declared.Refusal.{Refusal}
use Rattle.refusals.specs.declared.Refusal.TheVariants.{NoChain}
use Rattle.numbers.specs.Field.{Parse, refused, accepted}
use Rattle.flows.specs.Network.{Network}
use Rattle.flows.specs.Plan.{Plan}
use Rattle.network.specs.Record.{read_network}
use Rattle.plans.specs.Carried.{carrying}
use Rattle.planner.specs.declared.Written.{Written}
use Rattle.planner.specs.Promise.{refusal_after, RefusedWith, Answered, Decided, PromisedOf, Promised}

-- the octets that were written are the record of a plan that carries these octets
abbrev pub Carries : List ℕ → List ℕ → ℕ → Type 0
Carries network after size = (p : Plan) × (take size after ≡ carrying network p)

module _ (network : List ℕ) (amount : ℕ) (before after : List ℕ) (written : Written) where
  not_refused : {A : Type 0} (e : Refusal) → RefusedWith e before after (Ok written) → A
  not_refused e r = absurd (let h = r.number in let z : ◌≡◌ {A = ℕ} 0 1 = cc in omega arith)

  answered_carries : (N : Network) → Answered network N amount before after (Ok written) → Carries network after written.length
  answered_carries N a =
      let b = a.brought in
      (b.plan, subst (λ (n : ℕ). take n after ≡ carrying network b.plan) (sym b.length_number) b.front)

  decided_carries : (N : Network) (refusal : Result (Unit {0}) Refusal) → Decided network N amount before after (Ok written) refusal → Carries network after written.length
  decided_carries N (Ok x) d = elim d [
    | inl a ↦ answered_carries N a.1
    | inr r ↦ not_refused NoChain r.1
  ]
  decided_carries N (Err e) d = not_refused e d

  promised_carries : (x : Parse Network) → PromisedOf network x amount before after (Ok written) → Carries network after written.length
  promised_carries (refused e) r = not_refused e r
  promised_carries (accepted N rest) d = decided_carries N (refusal_after amount (length before)) d

  pub plan_carries : Promised network amount before after (Ok written) → Carries network after written.length
  plan_carries p = promised_carries (read_network network) p
