-- The text for each way through the input: each way rewrites the definition by what was read. Assumes nothing.
use mathlib.Core.Path.{◌≡◌}
use mathlib.Core.List.{List}
use Prim.Native.Nat.{ℕ}
use Rattle.refusals.specs.declared.Refusal.{Refusal}
use Rattle.refusals.specs.Numbers.{number_of}
use Rattle.numbers.specs.Field.{refused, and_then}
use Rattle.plans.specs.Held.{model_of}
use Rattle.texts.specs.Lines.{refused_text}
use Rattle.texts.specs.Page.{text_of}
use Rattle.inputs.specs.declared.Input as code
use Rattle.inputs.specs.Input.{read_input}
use Rattle.inputs.proofs.Answers.{WasRead}
use Rattle.sheet_lines.specs.SheetText.{sheet_text}
use Rattle.sheet_text.specs.Text.{sheeted}

pub sheeted_refused : (input : List ℕ) (e : Refusal) → read_input input ≡ refused e → refused_text (number_of e) ≡ sheeted input
unfolding sheeted and_then text_of
sheeted_refused input e h = rw h

pub sheeted_read : (input : List ℕ) (r : code.Input) → WasRead input r
    → sheet_text (model_of r.network.places r.plan).rows ≡ sheeted input
unfolding sheeted and_then text_of sheet_text
sheeted_read input r w = rw w.reads
