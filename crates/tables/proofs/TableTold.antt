-- What `network_writer::write` promises of the struct, told of the table. Assumes nothing.
use mathlib.Core.Path.{◌≡◌, refl, sym, ap, ◌∙◌}
use mathlib.Core.List.{List}
use mathlib.Core.Bool.{cond}
use Prim.Native.Nat.{ℕ}
use native.Mathlib.Omega.{arith}
use native.Mathlib.Decide.{ℕ_discrete}
use lib.ListN.{length}
use lib.Dec.{eqb}
use borrow.Author.Tests.{ne_eqb}
use Rattle.std.specs.Prelude.{Result}
use Rattle.refusals.specs.declared.Refusal.{Refusal}
use Rattle.refusals.specs.Numbers.{told}
use Rattle.numbers.specs.Leb128.{encode, over}
use Rattle.flows.specs.Network as model
use Rattle.network.specs.declared.Network.{Network}
use Rattle.network.specs.Record.{record_of, network_of}
use Rattle.network.specs.Held.{model_of}
use Rattle.network_writer.specs.Write.{writing_refusal, length_after, buffer_after}
use Rattle.network_writer.specs.Answer.{length_of, write_buffer}
use Rattle.network_writer.proofs.Writing.{writing_none}
use Rattle.network.proofs.Listed.{count_numbers, numbers_network}
use Rattle.tables.specs.Table.{table_size, table_record, table_refusal}

-- where writing a table is not refused, its record is that of the network whose numbers the table holds
pub record_told : (table : List ℕ) (size : ℕ) → length table ≡ table_size → writing_refusal (network_of table) size ≡ 0
    → record_of (network_of table) ≡ table_record table
unfolding record_of table_record
record_told table size l z =
    ap encode (numbers_network table (omega (arith, (writing_none (network_of table) size z).0.links_most, count_numbers table)))

-- what a call gives depends on the record only where the call is not refused
unless_refused : {A : Type 0} (f : List ℕ → A) (d : A) (e : ℕ) (x y : List ℕ) → (e ≡ 0 → x ≡ y) → cond (eqb e 0) (f x) d ≡ cond (eqb e 0) (f y) d
unless_refused f d e x y s = elim (ℕ_discrete e 0) [
  | yes z ↦ ap (λ (r : List ℕ). cond (eqb e 0) (f r) d) (s z)
  | no q ↦ rw (ne_eqb e 0 q) refl
]

module _ (table buffer after : List ℕ) (net : Network) (answer : Result ℕ Refusal) (l : length table ≡ table_size) (s : model_of net ≡ network_of table)
    (refusal_is : told answer ≡ writing_refusal (model_of net) (length buffer))
    (length-is : length_of answer ≡ length_after (writing_refusal (model_of net) (length buffer)) (record_of (model_of net)))
    (buffer-is : after ≡ write_buffer net buffer) where
  -- a number or a buffer that the record gives unless the call is refused
  from_record : {A : Type 0} (f : List ℕ → A) (d : A)
      → cond (eqb (writing_refusal (model_of net) (length buffer)) 0) (f (record_of (model_of net))) d ≡ cond (eqb (table_refusal table buffer) 0) (f (table_record table)) d
  unfolding table_refusal
  from_record f d =
      ap (λ (N : model.Network). cond (eqb (writing_refusal N (length buffer)) 0) (f (record_of N)) d) s
      ∙ unless_refused f d (writing_refusal (network_of table) (length buffer)) _ _ (record_told table (length buffer) l)

  pub write_told : (r : Result ℕ Refusal) → answer ≡ r
      → (told r ≡ table_refusal table buffer)
      × (length_of r ≡ length_after (told r) (table_record table))
      × (after ≡ buffer_after (told r) (table_record table) buffer)
  unfolding write_buffer table_refusal
  write_told r g =
      let e : told r ≡ table_refusal table buffer =
      sym (ap told g) ∙ refusal_is ∙ ap (λ (N : model.Network). writing_refusal N (length buffer)) s in (
        e,
        sym (ap length_of g) ∙ length-is ∙ from_record length 0 ∙ ap (λ (n : ℕ). length_after n (table_record table)) (sym e),
        buffer-is ∙ from_record (λ (r : List ℕ). over r buffer) buffer ∙ ap (λ (n : ℕ). buffer_after n (table_record table) buffer) (sym e),
      )
