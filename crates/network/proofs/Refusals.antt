-- A network's record is refused by a number from 1 to 7: each of its parts is. Assumes nothing.
use mathlib.Core.Path.{◌≡◌, subst}
use mathlib.Core.List.{List, [], ◌∷◌, ◌++◌}
use mathlib.Core.Bool.{Bool, true, false, cond}
use Prim.Native.Nat.{ℕ, zero, suc, ◌-◌, ◌≤◌, ◌<◌}
use native.Mathlib.Omega.{arith}
use lib.ListN.{length}
use lib.Dec.{ltb, eqb}
use Rattle.limits.specs.Limits.{fewest_places, most_places, fewest_links, most_links, most_capacity, most_transit}
use Rattle.refusals.specs.declared.Refusal.{Refusal}
use Rattle.refusals.specs.Numbers.{number_of}
use Rattle.numbers.specs.Leb128.{groups, Reading, endless, ended, padded, is, read_groups}
use Rattle.numbers.specs.Field.{Parse, refused, accepted, and_then, limited, field, complete}
use Rattle.flows.specs.declared.Link.{Link}
use Rattle.network.specs.Record.{number_refusals, number, read_link, read_links, read_rest, read_network}

pub record OneToSeven (e : ℕ) : Type 0 where
  pub positive : 0 < e
  pub to_seven : e ≤ 7

-- a part that is accepted, or refused so
abbrev Numbered : {A : Type 0} → Parse A → Type 0
Numbered (refused e) = OneToSeven (number_of e)
Numbered (accepted a rest) = Unit {0}

then_numbered : {A B : Type 0} (p : Parse A) (f : A → List ℕ → Parse B) → Numbered p → ((a : A) (s : List ℕ) → Numbered (f a s))
    → Numbered (and_then p f)
unfolding and_then
then_numbered (refused e) f h g = h
then_numbered (accepted a s) f h g = g a s

either_numbered : {A : Type 0} (t : Bool) (p q : Parse A) → Numbered p → Numbered q → Numbered (cond t p q)
either_numbered true p q h g = h
either_numbered false p q h g = g

number_numbered : (low high : ℕ) (s : List ℕ) → Numbered (number low high s)
unfolding field limited
number_numbered low high s = go (read_groups groups s)
  where
    go : (g : Reading) → Numbered (limited number_refusals low high g)
    go endless = omega arith
    go ended = omega arith
    go padded = omega arith
    go (is n rest) = either_numbered (ltb n low) _ _ (omega arith) (either_numbered (ltb high n) _ _ (omega arith) tt)

link_numbered : (places : ℕ) (s : List ℕ) → Numbered (read_link places s)
unfolding read_link
link_numbered places s =
    then_numbered _ _ (number_numbered 0 (places - 1) s) λ start s.
    then_numbered _ _ (number_numbered 0 (places - 1) s) λ end s.
    either_numbered (eqb start end) _ _ (omega arith)
    (then_numbered _ _ (number_numbered 0 most_capacity s) λ capacity s.
    then_numbered _ _ (number_numbered 0 most_transit s) λ transit s. tt)

links_numbered : (n places : ℕ) (s : List ℕ) (before : List Link) → Numbered (read_links n places s before)
unfolding read_links
links_numbered zero places s before = tt
links_numbered (suc n) places s before =
    then_numbered _ _ (link_numbered places s) λ l s. links_numbered n places s (before ++ (l ∷ []))

network_numbered : (s : List ℕ) → Numbered (read_network s)
unfolding read_network read_rest complete
network_numbered s =
    then_numbered _ _ (number_numbered fewest_places most_places s) λ places s.
    then_numbered _ _ (number_numbered 0 (places - 1) s) λ origin s.
    then_numbered _ _ (number_numbered 0 (places - 1) s) λ destination s.
    either_numbered (eqb destination origin) _ _ (omega arith)
    (then_numbered _ _ (number_numbered fewest_links most_links s) λ links s.
    then_numbered _ _ (links_numbered links places s []) λ ls s. either_numbered (eqb (length s) 0) _ _ tt (omega arith))

pub refusal_numbered : (s : List ℕ) (e : Refusal) → read_network s ≡ refused e → OneToSeven (number_of e)
refusal_numbered s e h = subst Numbered h (network_numbered s)
