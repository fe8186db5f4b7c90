-- For one entry after another the first by whose slot its blocks have arrived. Assumes nothing.
use mathlib.Core.Path.{◌≡◌, ◌∙◌}
use mathlib.Core.List.{List}
use Prim.Native.Nat.{ℕ, ◌+◌, ◌≤◌, ◌<◌}
use native.Mathlib.Omega.{arith}
use native.Mathlib.Decide.{ℕ_discrete}
use lib.ListN.{length, set, length-set}
use lib.Seq.{get_or-set_same, get_or-set_other}
use Rattle.limits.specs.Limits.{most_log_entries}
use Rattle.flows.specs.declared.Link.{Link}
use Rattle.logs.specs.declared.Entry.{Entry}
use Rattle.logs.specs.Columns.{nth, slot_of}
use Rattle.log_arrivals.specs.Arrivals.{From, transit_of, Firsts}

pub record FirstsTo (es : List Entry) (links : List Link) (first : List ℕ) (i : ℕ) : Type 0 where
  pub size : length first ≡ most_log_entries
  pub found : (j : ℕ) → j < i → From es (slot_of es j + transit_of es links j) (nth first j)

module _ (es : List Entry) (links : List Link) (first : List ℕ) (i : ℕ) (f : FirstsTo es links first i) where
  pub firsts_more : i < length es → length es ≤ most_log_entries → (r : ℕ) → From es (slot_of es i + transit_of es links i) r
      → FirstsTo es links (set first i r) (i + 1)
  firsts_more p few r g = record {
    size = length-set first i r ∙ f.size;
    found =
        λ j q. elim (ℕ_discrete j i) [
          | yes e ↦ rw (e, get_or-set_same first i r 0 (omega (arith, f.size))) g
          | no e ↦ rw (get_or-set_other first i j r 0 e) (f.found j (omega arith))
        ];
  }

  pub firsts_all : length es ≤ i → Firsts es links first
  firsts_all p j q = f.found j (omega arith)
