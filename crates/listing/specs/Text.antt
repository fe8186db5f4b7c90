-- The listing's text: "it prints `refused` and the number, or .." the plan's lines under its verdict.
use Rattle.std.specs.Prelude.{List, ℕ}
use Rattle.numbers.specs.Field.{accepted, and_then}
use Rattle.flows.specs.Network.{Network}
use Rattle.flows.specs.Cut.{bound}
use Rattle.flows.specs.Plan.{Plan, verdict}
use Rattle.texts.specs.Page.{text_of}
use Rattle.inputs.specs.Input.{read_input}
use Rattle.plan_lines.specs.PlanText.{plan_text}

-- the text for a network and a plan
unfoldable pub examined_text : Network → Plan → List ℕ
examined_text N p = plan_text (verdict N p) (bound N p.cut) p

-- the text for the listing's input
unfoldable pub listed : List ℕ → List ℕ
listed input = text_of (and_then (read_input input) λ i none. accepted (examined_text i.network i.plan) none)
