-- What the code answers for an input: where its records stand, and what they hold.
use Rattle.std.specs.Prelude.{ℕ, ◌+◌, ◌-◌, length, Result, Ok, Err}
use Rattle.refusals.specs.declared.Refusal.{Refusal}
use Rattle.numbers.specs.Field.{Parse, refused, accepted}
use Rattle.network.specs.Held as networks
use Rattle.plans.specs.Held as plans
use Rattle.inputs.specs.declared.Frame.{Frame}
use Rattle.inputs.specs.declared.Input as struct
use Rattle.inputs.specs.Frame.{Records}
use Rattle.inputs.specs.Input.{Input}

-- for an input of this size: a refusal, or where the network's record starts and where the plan's does
unfoldable pub frame_answer : ℕ → Parse Records → Result Frame Refusal
frame_answer size (refused e) = Err e
frame_answer size (accepted r rest) = Ok (record { start = size - (length r.network + length r.plan); end = size - length r.plan })

unfoldable pub input_answer : Parse Input → Result struct.Input Refusal
input_answer (refused e) = Err e
input_answer (accepted i rest) = Ok (record { network = networks.held i.network; plan = plans.held i.plan })
