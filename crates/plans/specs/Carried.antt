-- "Plans now open with the network record's length and the record itself, and the examiner compares them": what stands before the amount.
-- "Length misspellings fall under 14 to 16, a length above 1,541 under 17, and then a copy cut short under 14"; "23 when the copy isn't the
-- given network, after those and ahead of the amount".
use Rattle.std.specs.Prelude.{List, [], ◌∷◌, ◌++◌, Bool, true, false, cond, ◌&&◌, ℕ, length, take, drop, ltb, eqb}
use Rattle.limits.specs.Limits.{most_network_octets}
use Rattle.refusals.specs.declared.Refusal.TheVariants.{PlanEnds, AnotherNetwork}
use Rattle.numbers.specs.Leb128.{groups, shortest}
use Rattle.numbers.specs.Field.{Parse, refused, accepted, and_then}
use Rattle.flows.specs.Plan.{Plan}
use Rattle.plans.specs.Record.{number, read_plan, record_of}

-- "compared octet by octet"
abbrev pub same : List ℕ → List ℕ → Bool
same [] [] = true
same [] (y ∷ ys) = false
same (x ∷ xs) [] = false
same (x ∷ xs) (y ∷ ys) = eqb x y && same xs ys

-- the next n octets, which must be those of the network's record
unfoldable pub compared : List ℕ → ℕ → List ℕ → Parse ℕ
compared network n s = cond (ltb (length s) n) (refused PlanEnds) (cond (same (take n s) network) (accepted n (drop n s)) (refused AnotherNetwork))

unfoldable pub read_copy : List ℕ → List ℕ → Parse ℕ
read_copy network s = and_then (number 0 most_network_octets s) λ n s. compared network n s

-- a plan that carries a network's record, for a network with these numbers of places and links
unfoldable pub read_carrying : List ℕ → ℕ → ℕ → List ℕ → Parse Plan
read_carrying network places links s = and_then (read_copy network s) λ n s. read_plan places links s

-- its record
unfoldable pub carrying : List ℕ → Plan → List ℕ
carrying network p = shortest groups (length network) ++ (network ++ record_of p)
