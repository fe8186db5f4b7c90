-- The copy of the network's record at the front of a plan's, one law for each way through the code. Assumes nothing.
use mathlib.Core.Path.{◌≡◌, sym, ap, ◌∙◌}
use mathlib.Core.Bool.{Bool, true, false, true≢false, not}
use mathlib.Core.List.{List}
use Prim.Native.Nat.{ℕ, ◌+◌, ◌-◌, ◌≤◌, ◌<◌}
use native.Mathlib.Omega.{arith}
use lib.ListN.{length, take, drop, length-drop}
use lib.Seq.{drop-drop}
use lib.Dec.{ltb, eqb}
use lib.Pointwise.{pointwise, bytes_decides}
use borrow.Author.Tests.{lt-ltb, le-ltb, not-true, not-false}
use Rattle.std.specs.Prelude.{Ok, Err}
use Rattle.limits.specs.Limits.{most_network_octets}
use Rattle.refusals.specs.declared.Refusal.{Refusal}
use Rattle.refusals.specs.declared.Refusal.TheVariants.{PlanEnds, AnotherNetwork}
use Rattle.numbers.specs.declared.Part.{Part}
use Rattle.numbers.specs.Field.{and_then}
use Rattle.numbers.specs.Position.{field_answer}
use Rattle.numbers.proofs.Parts.{PartRead, part_refused, answer_refused, answer_accepted}
use Rattle.plans.specs.Record.{number}
use Rattle.plans.specs.Carried.{compared, read_copy}
use Rattle.plans.proofs.Carried.{same_other, same_self}
use Rattle.plan_parts.proofs.Cursor.{number_part}

module _ (s : List ℕ) (start : ℕ) (network : List ℕ) where
  pub copy_misspelled : (e : Refusal) → Err e ≡ field_answer (length s) (number 0 most_network_octets (drop start s))
      → Err e ≡ field_answer (length s) (read_copy network (drop start s))
  unfolding read_copy and_then
  copy_misspelled e h =
      answer_refused (λ n. n) _ _ _ (rw (part_refused (λ n. n) (length s) (number 0 most_network_octets (drop start s)) e h))

  module _ (n : Part ℕ) (e : Ok n ≡ field_answer (length s) (number 0 most_network_octets (drop start s))) where
    part : PartRead s (number 0 most_network_octets (drop start s)) n.value n.next
    part = number_part s start 0 most_network_octets n e

    pub copy_inside : n.next ≤ length s
    copy_inside = part.inside

    pub copy_cut : length s - n.next < n.value → Err PlanEnds ≡ field_answer (length s) (read_copy network (drop start s))
    unfolding read_copy and_then compared
    copy_cut h =
        answer_refused (λ n. n) _ _ _ (rw (part.accepts, lt-ltb (length (drop n.next s)) n.value (rw length-drop h)))

    module _ (room : n.value ≤ length s - n.next) where
      enough : ltb (length (drop n.next s)) n.value ≡ false
      enough = le-ltb (length (drop n.next s)) n.value (rw length-drop room)

      pub copy_other : (take n.value (drop n.next s) ≡ network → ⊥) → Err AnotherNetwork ≡ field_answer (length s) (read_copy network (drop start s))
      unfolding read_copy and_then compared
      copy_other d = answer_refused (λ n. n) _ _ _ (rw (part.accepts, enough, same_other (take n.value (drop n.next s)) network d))

      pub copy_read : take n.value (drop n.next s) ≡ network
          → Ok (record { value = n.value; next = n.next + n.value }) ≡ field_answer (length s) (read_copy network (drop start s))
      unfolding read_copy and_then compared
      copy_read q =
          answer_accepted (λ n. n) s _ n.value (n.next + n.value)
          (rw (part.accepts, enough, q, same_self network, drop-drop n.value n.next s)) (omega (arith, part.inside))

-- k octets of a list, compared as slices are
pub compares : (xs network : List ℕ) (k n : ℕ) (differ : Bool) → k ≡ n → differ ≡ not (pointwise eqb (take k xs) network)
    → (differ ≡ true → take n xs ≡ network → ⊥) × (differ ≡ false → take n xs ≡ network)
compares xs network k n differ e told = (
  λ t q. true≢false (sym ((bytes_decides (take k xs) network).1 (ap (λ (i : ℕ). take i xs) e ∙ q)) ∙ not-true _ (sym told ∙ t)),
  λ t. ap (λ (i : ℕ). take i xs) (sym e) ∙ (bytes_decides (take k xs) network).0 (not-false _ (sym told ∙ t)),
)
