-- The answer on each way through an input: each way rewrites the definition by what was found. Assumes nothing.
use mathlib.Core.Path.{◌≡◌}
use mathlib.Core.List.{List}
use Prim.Native.Nat.{ℕ, ◌-◌}
use native.Mathlib.Omega.{arith}
use lib.ListN.{length, take, drop, length-drop}
use lib.Seq.{take_all}
use Rattle.std.specs.Prelude.{Result, Ok, Err}
use Rattle.refusals.specs.declared.Refusal.{Refusal}
use Rattle.numbers.specs.Field.{refused, and_then}
use Rattle.flows.specs.Network.{count}
use Rattle.network.specs.declared.Network.{Network}
use Rattle.network.specs.Record.{read_network}
use Rattle.network.specs.Held.{model_of}
use Rattle.network.proofs.Model.{by_counts}
use Rattle.network.proofs.Answers as networks
use Rattle.plans.specs.declared.Plan.{Plan}
use Rattle.plans.specs.Carried.{read_carrying}
use Rattle.plans.proofs.Answers as plans
use Rattle.inputs.specs.declared.Input as struct
use Rattle.inputs.specs.Frame.{framed}
use Rattle.inputs.specs.Input.{read_records, read_input}
use Rattle.inputs.specs.Answer.{frame_answer, input_answer}
use Rattle.inputs.proofs.Framing.{Framed, frame_refused}

----- The two records

module _ (octets written : List ℕ) where
  pub records_refused : (e : Refusal) → read_network octets ≡ refused e → Err e ≡ input_answer (read_records octets written)
  unfolding read_records and_then input_answer
  records_refused e w = rw w

  module _ (net : Network) (n : networks.WasRead octets net) where
    -- the plan is read by the counts in the network's struct
    pub counted : read_carrying octets (model_of net).places (count (model_of net)) written ≡ read_carrying octets net.places net.count written
    counted = by_counts net (λ (places links : ℕ). read_carrying octets places links written)

    pub records_plan_refused : (e : Refusal) → read_carrying octets net.places net.count written ≡ refused e
        → Err e ≡ input_answer (read_records octets written)
    unfolding read_records and_then input_answer
    records_plan_refused e w = rw (n.reads, counted, w)

    pub records_read : (plan : Plan) → plans.WasRead octets net.places net.count written plan
        → ◌≡◌ {A = Result struct.Input Refusal} (Ok (record { network = net; plan = plan })) (input_answer (read_records octets written))
    unfolding read_records and_then input_answer
    records_read plan p = rw (n.reads, counted, p.reads) (λ j. Ok (record { network = n.holds j; plan = p.holds j }))

----- The input

pub input_refused : (input : List ℕ) (e : Refusal) → frame_answer (length input) (framed input) ≡ Err e → Err e ≡ input_answer (read_input input)
unfolding read_input and_then input_answer
input_refused input e h = rw (frame_refused (length input) (framed input) e h)

pub input_two : (input : List ℕ) (start end : ℕ) → Framed input start end
    → input_answer (read_records (take (end - start) (drop start input)) (take (length input - end) (drop end input))) ≡ input_answer (read_input input)
unfolding read_input and_then
input_two input start end f =
    rw (f.are, take_all (length input - end) (drop end input) (omega (arith, length-drop end input)))
