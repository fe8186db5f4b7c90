-- Document 02's example plan, which carries network A, is read; and what is refused of a copy, in its order: 14 to 16 for its length, 17
-- above 1,541, 14 where it is cut short, 23 where it is not the network's record, then the amount. By computation; assumes nothing.
use mathlib.Core.Path.{◌≡◌, refl}
use mathlib.Core.List.{List, [], ◌∷◌, ◌++◌}
use Prim.Native.Nat.{ℕ}
use lib.ListN.{length}
use Rattle.numbers.specs.Leb128.{joined, read_groups, encode, shortest}
use Rattle.numbers.specs.Field.{refused, accepted, and_then, limited, field, fields, complete}
use Rattle.numbers.specs.Numbered.{by_number}
use Rattle.plans.specs.Record.{read_tail, read_row, read_rows, read_plan, record_of}
use Rattle.plans.specs.Carried.{compared, read_copy, read_carrying, carrying}
use Rattle.plans.proofs.Examples.{example_a, octets_a}

-- network A's record: 24 octets, four places and five links
abbrev pub network_a : List ℕ
network_a =
    4 ∷ 0 ∷ 3 ∷ 5
    ∷ 0 ∷ 1 ∷ 2 ∷ 1
    ∷ 1 ∷ 3 ∷ 1 ∷ 1
    ∷ 1 ∷ 2 ∷ 1 ∷ 1
    ∷ 2 ∷ 3 ∷ 1 ∷ 2
    ∷ 0 ∷ 2 ∷ 1 ∷ 3
    ∷ []

-- "the example plan grows to 47 octets": those of request 7 behind the network's length and record
abbrev pub carried_a : List ℕ
carried_a = 24 ∷ network_a ++ octets_a

pub forty_seven : length carried_a ≡ 47
forty_seven = refl

pub reads_example : read_carrying network_a 4 5 carried_a ≡ accepted example_a []
unfolding read_carrying read_copy compared read_plan read_rows read_row read_tail and_then complete fields field limited read_groups joined
reads_example = refl

pub writes_example : carrying network_a example_a ≡ carried_a
unfolding carrying record_of encode shortest
writes_example = refl

----- The length

pub refuses_no_length : by_number (read_carrying network_a 4 5 []) ≡ refused 14
unfolding read_carrying read_copy and_then field limited read_groups joined
refuses_no_length = refl

pub refuses_padded_length : by_number (read_carrying network_a 4 5 (152 ∷ 0 ∷ network_a)) ≡ refused 15
unfolding read_carrying read_copy and_then field limited read_groups joined
refuses_padded_length = refl

pub refuses_endless_length : by_number (read_carrying network_a 4 5 (128 ∷ 128 ∷ 128 ∷ 128 ∷ [])) ≡ refused 16
unfolding read_carrying read_copy and_then field limited read_groups joined
refuses_endless_length = refl

-- 1,542, and 1,541 with fewer octets behind it
pub refuses_long_length : by_number (read_carrying network_a 4 5 (134 ∷ 12 ∷ network_a)) ≡ refused 17
unfolding read_carrying read_copy and_then field limited read_groups joined
refuses_long_length = refl

pub refuses_longest_cut : by_number (read_carrying network_a 4 5 (133 ∷ 12 ∷ network_a)) ≡ refused 14
unfolding read_carrying read_copy compared and_then field limited read_groups joined
refuses_longest_cut = refl

----- The copy

-- cut short, whatever it begins with
pub refuses_cut_copy : by_number (read_carrying network_a 4 5 (24 ∷ 4 ∷ 0 ∷ 3 ∷ [])) ≡ refused 14
unfolding read_carrying read_copy compared and_then field limited read_groups joined
refuses_cut_copy = refl

pub refuses_cut_other : by_number (read_carrying network_a 4 5 (24 ∷ 5 ∷ 0 ∷ 3 ∷ [])) ≡ refused 14
unfolding read_carrying read_copy compared and_then field limited read_groups joined
refuses_cut_other = refl

-- another one, before the amount is looked at: with its last octet off, shorter, and none
pub refuses_last_octet : by_number (read_carrying (1 ∷ 2 ∷ 3 ∷ []) 4 5 (3 ∷ 1 ∷ 2 ∷ 4 ∷ [])) ≡ refused 23
unfolding read_carrying read_copy compared and_then field limited read_groups joined
refuses_last_octet = refl

pub refuses_shorter : by_number (read_carrying (1 ∷ 2 ∷ 3 ∷ []) 4 5 (2 ∷ 1 ∷ 2 ∷ 0 ∷ [])) ≡ refused 23
unfolding read_carrying read_copy compared and_then field limited read_groups joined
refuses_shorter = refl

pub refuses_none : by_number (read_carrying network_a 4 5 (0 ∷ 0 ∷ [])) ≡ refused 23
unfolding read_carrying read_copy compared and_then field limited read_groups joined
refuses_none = refl

-- then the amount
pub refuses_amount_behind : by_number (read_carrying (1 ∷ 2 ∷ 3 ∷ []) 4 5 (3 ∷ 1 ∷ 2 ∷ 3 ∷ 0 ∷ [])) ≡ refused 17
unfolding read_carrying read_copy compared read_plan and_then field limited read_groups joined
refuses_amount_behind = refl
