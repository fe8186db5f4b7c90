-- What the reader of a link answers: as the reader of a number does, with the link.
use Rattle.std.specs.Prelude.{ℕ, Result}
use Rattle.refusals.specs.declared.Refusal.{Refusal}
use Rattle.numbers.specs.declared.Part.{Part}
use Rattle.numbers.specs.Field.{Parse}
use Rattle.numbers.specs.Position.{part_answer}
use Rattle.flows.specs.declared.Link.{Link}

-- a link holds itself
abbrev pub link_answer : ℕ → Parse Link → Result (Part Link) Refusal
link_answer size p = part_answer (λ l. l) size p
