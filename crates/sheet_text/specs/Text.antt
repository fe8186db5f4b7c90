-- The campaign sheet's text: "it takes the listing's input and prints its refusals", or the sheet's lines for the plan's rows.
use Rattle.std.specs.Prelude.{List, ℕ}
use Rattle.numbers.specs.Field.{accepted, and_then}
use Rattle.texts.specs.Page.{text_of}
use Rattle.inputs.specs.Input.{read_input}
use Rattle.sheet_lines.specs.SheetText.{sheet_text}

unfoldable pub sheeted : List ℕ → List ℕ
sheeted input = text_of (and_then (read_input input) λ i none. accepted (sheet_text i.plan.rows) none)
