-- The code's answers for a number and for a link, each way that it can go. Assumes nothing.
use mathlib.Core.Path.{◌≡◌}
use mathlib.Core.List.{List}
use Prim.Native.Nat.{ℕ, ◌-◌, ◌≤◌}
use lib.ListN.{length, drop}
use lib.Dec.{eqb}
use Rattle.std.specs.Prelude.{Ok}
use Rattle.limits.specs.Limits.{most_capacity, most_transit}
use Rattle.numbers.specs.declared.Part.{Part}
use Rattle.numbers.specs.Position.{field_answer}
use Rattle.numbers.proofs.Fields.{ReadAt, field_read}
use Rattle.numbers.proofs.Many.{behind_same, Proper, then_proper, test_proper, field_proper}
use Rattle.numbers.proofs.Parts.{PartRead, part_read}
use Rattle.flows.specs.declared.Link.{Link}
use Rattle.network.specs.Record.{number_refusals, number, read_link}
use Rattle.link_reader.specs.LinkAnswer.{link_answer}

pub number_read : (low high : ℕ) (s : List ℕ) (at : ℕ) (f : Part ℕ) → Ok f ≡ field_answer (length s) (number low high (drop at s))
    → ReadAt number_refusals low high s at f.value f.next
number_read = field_read number_refusals

pub link_proper : (places : ℕ) (s : List ℕ) → Proper s (read_link places s)
unfolding read_link
link_proper places s =
    then_proper s _ _ (field_proper number_refusals 0 (places - 1) s) λ start s.
    then_proper s _ _ (field_proper number_refusals 0 (places - 1) s) λ end s.
    test_proper s (eqb start end) _ _
    (then_proper s _ _ (field_proper number_refusals 0 most_capacity s) λ capacity s.
    then_proper s _ _ (field_proper number_refusals 0 most_transit s) λ transit s. behind_same s)

-- the link that the code read at a position
pub link_part : (places : ℕ) (s : List ℕ) (at : ℕ) (r : Part Link) → at ≤ length s → Ok r ≡ link_answer (length s) (read_link places (drop at s))
    → PartRead s (read_link places (drop at s)) r.value r.next
link_part places s at r l e =
    let h = part_read (λ (k : Link). k) s at (read_link places (drop at s)) r e l (link_proper places (drop at s)) in
    rw h.held h.read
