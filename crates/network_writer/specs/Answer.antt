-- What the code's writing answers, over the struct, and the buffer after it.
use Rattle.std.specs.Prelude.{List, ℕ, length, Result, Ok, Err}
use Rattle.refusals.specs.declared.Refusal.{Refusal}
use Rattle.network.specs.declared.Network.{Network}
use Rattle.network.specs.Record.{record_of}
use Rattle.network.specs.Held.{model_of}
use Rattle.network_writer.specs.Write.{then_next, writing, writing_refusal, buffer_after}

-- the length in an answer: "a refused call gives its number, 0 in every other number of the answer"
abbrev pub length_of : Result ℕ Refusal → ℕ
length_of (Err e) = 0
length_of (Ok n) = n

-- what writing a struct to a buffer of this many octets answers
unfoldable pub write_answer : Network → ℕ → Result ℕ Refusal
write_answer net size = then_next (writing (model_of net) size) (Ok (length (record_of (model_of net))))

-- the buffer after it
unfoldable pub write_buffer : Network → List ℕ → List ℕ
write_buffer net buffer = buffer_after (writing_refusal (model_of net) (length buffer)) (record_of (model_of net)) buffer
