-- The ways of `plan`, each as the case of the promise that it meets: a refusal of the record, the amount or the buffer, or what
-- planning on the network answers. Assumes nothing.
use mathlib.Core.Path.{◌≡◌, sym, ap, subst}
use mathlib.Core.Logic.{inl, inr}
use mathlib.Core.List.{List, []}
use Prim.Native.Nat.{ℕ}
use lib.ListN.{length}
use Rattle.std.specs.Prelude.{Ok, Err}
use Rattle.refusals.specs.declared.Refusal.{Refusal}
use Rattle.numbers.specs.Leb128.{Octets}
use Rattle.numbers.specs.Field.{Parse, refused, accepted}
use Rattle.flows.specs.Network.{Network}
use Rattle.flows.specs.Cut.{bound}
use Rattle.network.specs.Record.{read_network, record_of}
use Rattle.network_writer.proofs.RoundTrip.{read_is_record}
use Rattle.examiner.specs.Examine.{Verdict, examined, examined_for, examined_plan}
use Rattle.planner.specs.Promise.{Planned, refusal_after, Promised, PromisedOf, Decided, Brought, Answered, PlannedFor}
use Rattle.planner.proofs.Bringing.{refused_kept}

module _ (s : List ℕ) (amount : ℕ) (before : List ℕ) where
  pub network_refused : (e : Refusal) → read_network s ≡ refused e → Promised s amount before before (Err e)
  network_refused e h =
      subst (λ (p : Parse Network). PromisedOf s p amount before before (Err e)) (sym h) (refused_kept e before)

  module _ (N : Network) (reads : read_network s ≡ accepted N []) where
    decided : (after : List ℕ) (answer : Planned) → Decided s N amount before after answer (refusal_after amount (length before))
        → Promised s amount before after answer
    decided after answer d = subst (λ (p : Parse Network). PromisedOf s p amount before after answer) (sym reads) d

    pub turned_down : (e : Refusal) → Err e ≡ refusal_after amount (length before) → Promised s amount before before (Err e)
    turned_down e h = decided before (Err e) (subst (Decided s N amount before before (Err e)) h (refused_kept e before))

    module _ (octets : Octets s) where
      -- a plan that carries the network's record carries the octets that were read, and is right for them
      examined_right : (after : List ℕ) (answer : Planned) → Brought (record_of N) N amount before after answer → Answered s N amount before after answer
      unfolding examined examined_for examined_plan
      examined_right after answer b =
          let r : Brought s N amount before after answer =
          subst (λ (o : List ℕ). Brought o N amount before after answer) (read_is_record s N [] octets reads) b in
          record {
            brought = r;
            passes = rw (reads, r.readable) (ap (λ (v : ℕ). Verdict v (bound N r.plan.cut)) r.passes);
          }

      pub taken : (x : Unit {0}) → Ok x ≡ refusal_after amount (length before) → (after : List ℕ) (answer : Planned) → PlannedFor N amount before after answer
          → Promised s amount before after answer
      taken x none after answer p =
          decided after answer
          (subst (Decided s N amount before after answer) none
          (elim p [
            | inl h ↦ inl (h.0, examined_right after answer h.1)
            | inr h ↦ inr h
          ]))
