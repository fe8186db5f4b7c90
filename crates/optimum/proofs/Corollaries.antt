-- "An archive that can't be reached gives 0, and so does horizon 0": of every answer that `most` may promise and that is no refusal. What
-- it answers is the most of all flows, and of these no flow delivers a block. Assumes nothing.
use mathlib.Core.Path.{◌≡◌, ap, subst, ◌∙◌}
use mathlib.Core.List.{List}
use Prim.Native.Nat.{ℕ}
use native.Mathlib.Omega.{arith}
use lib.ListN.{length}
use Rattle.std.specs.Prelude.{Result, Ok, Err}
use Rattle.refusals.specs.declared.Refusal.{Refusal}
use Rattle.refusals.specs.Numbers.{told}
use Rattle.refusals.proofs.Positive.{positive}
use Rattle.numbers.specs.Field.{Parse, accepted}
use Rattle.flows.specs.Network.{Network}
use Rattle.flows.specs.Flow.{Most}
use Rattle.flows.proofs.Least.{most_unique}
use Rattle.flows.proofs.Nothing.{horizon_zero_most_none}
use Rattle.statics.specs.Reach.{Reachable}
use Rattle.statics.proofs.Reaching.{unreachable_most_none}
use Rattle.network.specs.Record.{read_network}
use Rattle.network.proofs.WellFormed.{well_formed}
use Rattle.optimum.specs.Promise.{refusal_after, Answered, Decided, PromisedOf, Promised}

module _ (octets : List ℕ) (horizon : ℕ) (before after : List ℕ) (answer : Result ℕ Refusal) (promised : Promised octets horizon before after answer)
    (not_refused : told answer ≡ 0) (N : Network) (rest : List ℕ) (reads : read_network octets ≡ accepted N rest) where
  decided : (refusal : Result (Unit {0}) Refusal) → Decided N horizon before after answer refusal → Answered N horizon before after answer
  decided (Ok x) a = a
  decided (Err e) r = absurd (omega (arith, r.refusal_number, positive e))

  answered : Answered N horizon before after answer
  answered =
      decided (refusal_after N horizon (length before))
      (subst (λ (x : Parse Network). PromisedOf x horizon before after answer) reads promised)

  by_most : Most N horizon 0 → answer ≡ Ok 0
  by_most m = answered.blocks ∙ ap Ok (most_unique answered.is_most m)

  pub unreachable_gives_none : (Reachable N → ⊥) → answer ≡ Ok 0
  unreachable_gives_none unreachable =
      by_most (unreachable_most_none (well_formed octets N rest reads).connects unreachable horizon)

  pub horizon_zero_gives_none : horizon ≡ 0 → answer ≡ Ok 0
  horizon_zero_gives_none z = by_most (rw z (horizon_zero_most_none N))
