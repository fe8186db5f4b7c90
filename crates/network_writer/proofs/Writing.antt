-- Laws of writing a network: when it is refused, and what it answers. Assumes nothing.
use mathlib.Core.Path.{◌≡◌, refl, ap}
use mathlib.Core.List.{List}
use mathlib.Core.Bool.{Bool, true, false, cond}
use Prim.Native.Nat.{ℕ, ◌≤◌, ◌<◌}
use native.Mathlib.Omega.{arith}
use lib.ListN.{length}
use lib.Dec.{ltb}
use borrow.Author.Tests.{lt-ltb, le-ltb, ltb-false, ne_eqb}
use Rattle.std.specs.Prelude.{Result, Ok, Err}
use Rattle.refusals.specs.declared.Refusal.{Refusal}
use Rattle.refusals.specs.declared.Refusal.TheVariants.{BufferShort}
use Rattle.refusals.specs.Numbers.{number_of, told}
use Rattle.refusals.proofs.Positive.{positive}
use Rattle.numbers.specs.Leb128.{over}
use Rattle.flows.specs.Network as model
use Rattle.flows.specs.Network.{WellFormed}
use Rattle.network.specs.declared.Network.{Network}
use Rattle.network.specs.Record.{record_of}
use Rattle.network.specs.Held.{model_of}
use Rattle.network_check.specs.Check.{Tested, fine, network_refusal}
use Rattle.network_check.proofs.Checking.{refusal_none, network_fine}
use Rattle.network_writer.specs.Write.{then_next, writing, writing_refusal, length_after}
use Rattle.network_writer.specs.Answer.{length_of, write_answer, write_buffer}

----- When writing is refused

-- writing is refused unless the network is within the limits and the buffer has room for its record
pub writing_none : (N : model.Network) (size : ℕ) → writing_refusal N size ≡ 0 → WellFormed N × (length (record_of N) ≤ size)
unfolding writing_refusal writing
writing_none N size h = go (network_refusal N) (ltb size (length (record_of N))) refl refl h
  where
    go : (t : Tested) (u : Bool) → network_refusal N ≡ t → ltb size (length (record_of N)) ≡ u → told (then_next t (cond u (Err BufferShort) fine)) ≡ 0
        → WellFormed N × (length (record_of N) ≤ size)
    go (Err e) u p q g = absurd (omega (arith, positive e))
    go (Ok x) true p q g = absurd (omega arith)
    go (Ok x) false p q g = (refusal_none N p, ltb-false size (length (record_of N)) q)

writing_nothing : (N : model.Network) (size : ℕ) → WellFormed N → length (record_of N) ≤ size → writing N size ≡ fine
unfolding writing
writing_nothing N size w h = rw (network_fine N w, le-ltb size (length (record_of N)) h) refl

pub writing_fine : (N : model.Network) (size : ℕ) → WellFormed N → length (record_of N) ≤ size → writing_refusal N size ≡ 0
unfolding writing_refusal
writing_fine N size w h = ap told (writing_nothing N size w h)

----- What writing answers

module _ (net : Network) (b : List ℕ) where
  -- the answer, its refusal's number and its length, and the buffer after it, as `write` promises them
  abbrev Answered : Result ℕ Refusal → List ℕ → Type 0
  Answered r b' =
      (r ≡ write_answer net (length b)) × ((told r ≡ writing_refusal (model_of net) (length b))
      × ((length_of r ≡ length_after (writing_refusal (model_of net) (length b)) (record_of (model_of net))) × (b' ≡ write_buffer net b)))

  answered_refusal : (e : Refusal) → writing (model_of net) (length b) ≡ Err e → Answered (Err e) b
  unfolding write_buffer write_answer writing_refusal
  answered_refusal e w = rw (w, ne_eqb (number_of e) 0 (λ z. omega (arith, positive e))) (refl, (refl, (refl, refl)))

  pub write_refused : (e : Refusal) → Err e ≡ network_refusal (model_of net) → Answered (Err e) b
  unfolding writing
  write_refused e q = answered_refusal e (rw (← q) refl)

  pub write_short : network_refusal (model_of net) ≡ fine → length b < length (record_of (model_of net)) → Answered (Err BufferShort) b
  unfolding writing
  write_short f h =
      answered_refusal BufferShort (rw (f, lt-ltb (length b) (length (record_of (model_of net))) h) refl)

  pub write_whole : (r : ℕ) (b' : List ℕ) → network_refusal (model_of net) ≡ fine → length (record_of (model_of net)) ≤ length b
      → r ≡ length (record_of (model_of net)) → b' ≡ over (record_of (model_of net)) b → Answered (Ok r) b'
  unfolding write_buffer write_answer writing_refusal
  write_whole r b' f h e y =
      rw (writing_nothing (model_of net) (length b) (refusal_none (model_of net) f) h) (ap Ok e, (refl, (e, y)))
