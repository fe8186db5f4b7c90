-- The text for each way through the input: each way rewrites the definition by what was read. Assumes nothing.
use mathlib.Core.Path.{◌≡◌}
use mathlib.Core.List.{List}
use Prim.Native.Nat.{ℕ}
use Rattle.refusals.specs.declared.Refusal.{Refusal}
use Rattle.refusals.specs.Numbers.{number_of}
use Rattle.numbers.specs.Field.{refused, and_then}
use Rattle.flows.specs.Cut.{bound}
use Rattle.flows.specs.Plan.{verdict}
use Rattle.network.specs.declared.Network.{Network}
use Rattle.network.specs.Held as networks
use Rattle.plans.specs.declared.Plan.{Plan}
use Rattle.plans.specs.Held as plans
use Rattle.plans.specs.WritablePlan.{Countable}
use Rattle.row_uses.specs.Given.{Given}
use Rattle.row_uses.proofs.Given.{rows_few}
use Rattle.texts.specs.Lines.{refused_text}
use Rattle.texts.specs.Page.{text_of}
use Rattle.inputs.specs.declared.Input as code
use Rattle.inputs.specs.Input.{read_input}
use Rattle.inputs.proofs.Answers.{WasRead}
use Rattle.plan_lines.specs.PlanText.{plan_text}
use Rattle.listing.specs.Text.{examined_text, listed}

-- the struct counts no more than its arrays hold
pub countable : (net : Network) (plan : Plan) → Given net plan → Countable plan
countable net plan given = record { count = rows_few net plan given; links = λ i h. (given.stands i h).size }

pub listed_refused : (input : List ℕ) (e : Refusal) → read_input input ≡ refused e → refused_text (number_of e) ≡ listed input
unfolding listed and_then text_of
listed_refused input e h = rw h

pub listed_read : (input : List ℕ) (r : code.Input) → WasRead input r
    → plan_text (verdict (networks.model_of r.network) (plans.model_of r.network.places r.plan))
    (bound (networks.model_of r.network) (plans.model_of r.network.places r.plan).cut) (plans.model_of r.network.places r.plan)
    ≡ listed input
unfolding listed and_then text_of examined_text
listed_read input r w = rw w.reads
