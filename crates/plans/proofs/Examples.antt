-- Document 02's example plan and its largest plans are read: every number at its limit, one of them above its limit refused, and the
-- refusals of a number at its fourth octet. By computation; assumes nothing.
use mathlib.Core.Path.{◌≡◌, refl}
use mathlib.Core.List.{List, [], ◌∷◌}
use Prim.Native.Nat.{ℕ}
use lib.ListN.{length}
use Rattle.numbers.specs.Leb128.{joined, read_groups, encode, shortest}
use Rattle.numbers.specs.Field.{refused, accepted, and_then, limited, field, fields, complete}
use Rattle.numbers.specs.Numbered.{by_number}
use Rattle.flows.specs.Plan.{Plan}
use Rattle.flows.specs.Figures.{plan_of, short, long, cut_a}
use Rattle.plans.specs.Record.{read_tail, read_row, read_rows, read_plan, record_of}

-- "The example plan grows to 22 octets, with 02 and 04 added": the plan for 4 blocks that the table of figures shows to pass
abbrev pub example_a : Plan
example_a = plan_of 4 5 (short 3 ∷ long 1 ∷ []) (cut_a 4)

abbrev pub octets_a : List ℕ
octets_a = 4 ∷ 5 ∷ 0 ∷ 1 ∷ 2 ∷ 4 ∷ 2 ∷ 2 ∷ 0 ∷ 1 ∷ 2 ∷ 1 ∷ 0 ∷ 3 ∷ 3 ∷ 0 ∷ 2 ∷ 3 ∷ 4 ∷ 1 ∷ 0 ∷ 1 ∷ []

pub example_octets : length octets_a ≡ 22
example_octets = refl

pub reads_example : read_plan 4 5 octets_a ≡ accepted example_a []
unfolding read_plan read_rows read_row read_tail and_then complete fields field limited read_groups joined
reads_example = refl

pub writes_example : record_of example_a ≡ octets_a
unfolding record_of encode shortest
writes_example = refl

-- "amounts up to 100,000,000, so horizons, cut numbers, first slots and departures go up to 100,063,000"; a row's length "0 to 63,000"
abbrev pub largest : Plan
largest = record {
  amount = 100000000;
  horizon = 100063000;
  cut = 0 ∷ 100063000 ∷ [];
  rows = record { links = 0 ∷ []; length = 63000; rate = 1; first = 100063000; departures = 100063000 } ∷ [];
}

abbrev pub octets_largest : List ℕ
octets_largest =
    128 ∷ 194 ∷ 215 ∷ 47
    ∷ 152 ∷ 174 ∷ 219 ∷ 47
    ∷ 0 ∷ 152 ∷ 174 ∷ 219 ∷ 47
    ∷ 1
    ∷ 1 ∷ 0 ∷ 152 ∷ 236 ∷ 3 ∷ 1 ∷ 152 ∷ 174 ∷ 219 ∷ 47 ∷ 152 ∷ 174 ∷ 219 ∷ 47
    ∷ []

pub reads_largest : read_plan 2 1 octets_largest ≡ accepted largest []
unfolding read_plan read_rows read_row read_tail and_then complete fields field limited read_groups joined
reads_largest = refl

pub writes_largest : record_of largest ≡ octets_largest
unfolding record_of encode shortest
writes_largest = refl

-- one more is outside the limits: of the amount, of T, of the first place's number in the cut
pub refuses_amount : by_number (read_plan 2 1 (129 ∷ 194 ∷ 215 ∷ 47 ∷ [])) ≡ refused 17
unfolding read_plan and_then field limited read_groups joined
refuses_amount = refl

pub refuses_horizon : by_number (read_plan 2 1 (1 ∷ 153 ∷ 174 ∷ 219 ∷ 47 ∷ [])) ≡ refused 17
unfolding read_plan and_then field limited read_groups joined
refuses_horizon = refl

pub refuses_cut_number : by_number (read_plan 2 1 (1 ∷ 1 ∷ 153 ∷ 174 ∷ 219 ∷ 47 ∷ [])) ≡ refused 17
unfolding read_plan and_then fields field limited read_groups joined
refuses_cut_number = refl

-- of a row's length, its first slot and its departures
pub refuses_length : by_number (read_row 1 (1 ∷ 0 ∷ 153 ∷ 236 ∷ 3 ∷ [])) ≡ refused 17
unfolding read_row read_tail and_then fields field limited read_groups joined
refuses_length = refl

pub refuses_first : by_number (read_row 1 (1 ∷ 0 ∷ 0 ∷ 1 ∷ 153 ∷ 174 ∷ 219 ∷ 47 ∷ [])) ≡ refused 17
unfolding read_row read_tail and_then fields field limited read_groups joined
refuses_first = refl

pub refuses_departures : by_number (read_row 1 (1 ∷ 0 ∷ 0 ∷ 1 ∷ 0 ∷ 153 ∷ 174 ∷ 219 ∷ 47 ∷ [])) ≡ refused 17
unfolding read_row read_tail and_then fields field limited read_groups joined
refuses_departures = refl

-- the fourth octet is missing, is 0, or asks for a fifth
pub refuses_fourth_missing : by_number (read_plan 2 1 (128 ∷ 128 ∷ 128 ∷ [])) ≡ refused 14
unfolding read_plan and_then field limited read_groups joined
refuses_fourth_missing = refl

pub refuses_fourth_padding : by_number (read_plan 2 1 (128 ∷ 128 ∷ 128 ∷ 0 ∷ [])) ≡ refused 15
unfolding read_plan and_then field limited read_groups joined
refuses_fourth_padding = refl

pub refuses_fourth_continuing : by_number (read_plan 2 1 (128 ∷ 128 ∷ 128 ∷ 128 ∷ [])) ≡ refused 16
unfolding read_plan and_then field limited read_groups joined
refuses_fourth_continuing = refl
