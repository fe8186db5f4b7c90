-- Document 01's network A: its 24 octets are read as the network of the figures, and are its record. Document 02's link of transit 0 is
-- read, and the first numbers of a record are refused at the fourth octet. Of two faults the one that comes first is told. By
-- computation; assumes nothing.
use mathlib.Core.Path.{◌≡◌, refl}
use mathlib.Core.List.{List, [], ◌∷◌}
use Prim.Native.Nat.{ℕ}
use Rattle.numbers.specs.Leb128.{shortest, joined, read_groups, encode}
use Rattle.numbers.specs.Field.{refused, accepted, and_then, limited, field, complete}
use Rattle.numbers.specs.Numbered.{by_number}
use Rattle.flows.specs.Figures.{A, link_of}
use Rattle.network.specs.Record.{read_link, read_links, read_rest, read_network, record_of}

-- "04 00 03 05, 00 01 02 01, 01 03 01 01, 01 02 01 01, 02 03 01 02, 00 02 01 03"
abbrev pub octets_a : List ℕ
octets_a =
    4 ∷ 0 ∷ 3 ∷ 5
    ∷ 0 ∷ 1 ∷ 2 ∷ 1
    ∷ 1 ∷ 3 ∷ 1 ∷ 1
    ∷ 1 ∷ 2 ∷ 1 ∷ 1
    ∷ 2 ∷ 3 ∷ 1 ∷ 2
    ∷ 0 ∷ 2 ∷ 1 ∷ 3
    ∷ []

pub reads_A : read_network octets_a ≡ accepted A []
unfolding read_network read_rest read_links read_link and_then complete field limited read_groups
reads_A = refl

pub writes_A : record_of A ≡ octets_a
unfolding record_of encode shortest
writes_A = refl

-- "the example with transit 0 reads as accepted"
pub reads_transit_0 : read_network (2 ∷ 0 ∷ 1 ∷ 1 ∷ 0 ∷ 1 ∷ 1 ∷ 0 ∷ [])
    ≡ accepted (record { places = 2; origin = 0; destination = 1; links = link_of 0 1 1 0 ∷ [] }) []
unfolding read_network read_rest read_links read_link and_then complete field limited read_groups
reads_transit_0 = refl

-- a destination that is the origin, and after it a number of links that is outside its limits
pub refuses_5_before_4 : by_number (read_network (2 ∷ 0 ∷ 0 ∷ 0 ∷ [])) ≡ refused 5
unfolding read_network read_rest and_then field limited read_groups
refuses_5_before_4 = refl

-- "80 80 80 alone gives 1"; a fourth octet of 0 gives 2, one that continues 3; a number of four octets is outside the limits
pub refuses_fourth_missing : by_number (read_network (128 ∷ 128 ∷ 128 ∷ [])) ≡ refused 1
unfolding read_network read_rest and_then field limited read_groups joined
refuses_fourth_missing = refl

pub refuses_fourth_padding : by_number (read_network (128 ∷ 128 ∷ 128 ∷ 0 ∷ [])) ≡ refused 2
unfolding read_network read_rest and_then field limited read_groups joined
refuses_fourth_padding = refl

pub refuses_fourth_continuing : by_number (read_network (128 ∷ 128 ∷ 128 ∷ 128 ∷ [])) ≡ refused 3
unfolding read_network read_rest and_then field limited read_groups joined
refuses_fourth_continuing = refl

pub refuses_four_groups : by_number (read_network (128 ∷ 128 ∷ 128 ∷ 1 ∷ [])) ≡ refused 4
unfolding read_network read_rest and_then field limited read_groups joined
refuses_four_groups = refl
