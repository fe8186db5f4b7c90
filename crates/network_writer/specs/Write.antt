-- "Write a network": "numbers in record order with 4, 5, 6 as above; then 8 if the buffer is shorter than the record. The answer is the
-- record's length."
use Rattle.std.specs.Prelude.{List, cond, ℕ, length, ltb, eqb, Result, Ok, Err}
use Rattle.refusals.specs.declared.Refusal.{Refusal}
use Rattle.refusals.specs.declared.Refusal.TheVariants.{BufferShort}
use Rattle.refusals.specs.Numbers.{told}
use Rattle.numbers.specs.Leb128.{over}
use Rattle.flows.specs.Network as model
use Rattle.network.specs.Record.{record_of}
use Rattle.network_check.specs.Check.{Tested, fine, network_refusal}

-- where there is nothing to refuse, what comes after decides
abbrev pub then_next : {A : Type 0} → Tested → Result A Refusal → Result A Refusal
then_next (Ok x) next = next
then_next (Err e) next = Err e

-- what writing a network to a buffer of this many octets refuses; "8 if the buffer is shorter than the record"
unfoldable pub writing : model.Network → ℕ → Tested
writing N size = then_next (network_refusal N) (cond (ltb size (length (record_of N))) (Err BufferShort) fine)

-- its number, 0 if there is none
unfoldable pub writing_refusal : model.Network → ℕ → ℕ
writing_refusal N size = told (writing N size)

-- "the answer is the record's length", 0 in a refused call
abbrev pub length_after : ℕ → List ℕ → ℕ
length_after refusal octets = cond (eqb refusal 0) (length octets) 0

-- "a refused call gives .. unchanged buffers"; otherwise the record stands "from the buffer's first octet; octets past the record
-- keep their content"
abbrev pub buffer_after : ℕ → List ℕ → List ℕ → List ℕ
buffer_after refusal octets buffer = cond (eqb refusal 0) (over octets buffer) buffer
