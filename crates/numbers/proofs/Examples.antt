-- The numbers of documents 01 and 02 as octets, written and read, the three failures at four octets, and refusals of a reader's own. By
-- computation; assumes nothing.
use mathlib.Core.Path.{◌≡◌, refl}
use mathlib.Core.List.{List, [], ◌∷◌}
use Prim.Native.Nat.{ℕ}
use Rattle.numbers.specs.declared.Refusals.{Refusals}
use Rattle.numbers.specs.Leb128.{groups, shortest, endless, ended, padded, is, joined, read_groups}
use Rattle.numbers.specs.Field.{ParseBy, refused, accepted, limited, field}

-- a number has these octets, and they are read as the number
abbrev Spelled : ℕ → List ℕ → Type 0
Spelled n s = (shortest groups n ≡ s) × (read_groups groups s ≡ is n [])

-- "FF FF 7F", "80 80 80 01", "FF FF FF 7F": the largest number of three groups, the first of four, and the largest of four
pub spelled_2097151 : Spelled 2097151 (255 ∷ 255 ∷ 127 ∷ [])
unfolding shortest read_groups joined
spelled_2097151 = (refl, refl)

pub spelled_2097152 : Spelled 2097152 (128 ∷ 128 ∷ 128 ∷ 1 ∷ [])
unfolding shortest read_groups joined
spelled_2097152 = (refl, refl)

pub spelled_268435455 : Spelled 268435455 (255 ∷ 255 ∷ 255 ∷ 127 ∷ [])
unfolding shortest read_groups joined
spelled_268435455 = (refl, refl)

-- the fourth octet is missing, is 0, or asks for a fifth
pub fourth_missing : read_groups groups (128 ∷ 128 ∷ 128 ∷ []) ≡ ended
unfolding read_groups joined
fourth_missing = refl

pub fourth_pads : read_groups groups (128 ∷ 128 ∷ 128 ∷ 0 ∷ []) ≡ padded
unfolding read_groups joined
fourth_pads = refl

pub fourth_continues : read_groups groups (128 ∷ 128 ∷ 128 ∷ 128 ∷ []) ≡ endless
unfolding read_groups joined
fourth_continues = refl

-- a reader may refuse by what it likes, as by these numbers a number that is not from 2 to 9
abbrev own : Refusals ℕ
own = record { endless = 40; ended = 41; padded = 42; outside = 43 }

abbrev Answered : List ℕ → ParseBy ℕ ℕ → Type 0
Answered s p = field own 2 9 s ≡ p

pub own_refusals : Answered (128 ∷ 128 ∷ 128 ∷ 128 ∷ []) (refused 40) × Answered [] (refused 41) × Answered (133 ∷ 0 ∷ []) (refused 42)
    × Answered (10 ∷ []) (refused 43) × Answered (9 ∷ []) (accepted 9 [])
unfolding field limited read_groups joined
own_refusals = (refl, refl, refl, refl, refl)
