-- The tests of a plan's cut, over the struct that holds it. Assumes nothing.
use mathlib.Core.Path.{◌≡◌, refl, sym, ap, ◌∙◌}
use mathlib.Core.Logic.{◌≢◌}
use mathlib.Core.Bool.{Bool, true, false, not, ◌||◌}
use mathlib.Core.List.{List}
use Prim.Native.Nat.{ℕ, zero, suc, ◌≤◌}
use native.Mathlib.Numerals.{add-one}
use native.Mathlib.Omega.{arith}
use native.Mathlib.Decide.{ℕ_discrete}
use lib.ListN.{length, get_or, take}
use Rattle.std.specs.List.{list_any}
use Rattle.std.proofs.lemmas.List.{length-take-le, take_all}
use Rattle.std.proofs.lemmas.List.Folds.{list_any_more}
use lib.Seq.{get_or-take}
use lib.Dec.{ltb, eqb}
use borrow.Author.Tests.{eq-eqb, ne_eqb}
use Rattle.flows.specs.Clock.{counting}
use Rattle.flows.specs.Sums.{some}
use Rattle.flows.specs.Network.{WellFormed}
use Rattle.flows.specs.Cut.{number}
use Rattle.flows.specs.Plan.{miscut}
use Rattle.network.specs.declared.Network.{Network}
use Rattle.network.specs.Held as network
use Rattle.network.proofs.Model.{places_model, origin_model, destination_model}
use Rattle.network.proofs.Links.{origin_in, destination_in}

-- ---- a number of the cut that is above the limit

-- a test of some element, element by element
any_some : (p : ℕ → Bool) (xs : List ℕ) (n : ℕ) → n ≤ length xs → list_any p (take n xs) ≡ some (λ i. p (get_or xs i 0)) n
any_some p xs zero h = refl
any_some p xs (suc n) h =
    (rw add-one at (list_any_more p xs n 0 (omega arith)))
    ∙ ap (λ (b : Bool). b || p (get_or xs n 0)) (any_some p xs n (omega arith))

module _ (cut : List ℕ) (places limit : ℕ) where
  abbrev pub high : ℕ → Bool
  high v = ltb limit (number (take places cut) v)

  pub above_is : places ≤ length cut → list_any (ltb limit) (take places cut) ≡ some high places
  above_is h =
      let size : length (take places cut) ≡ places = length-take-le places cut h in
      rw (take_all places (take places cut) (omega (arith, size))) at (any_some (ltb limit) (take places cut) places (omega (arith, size)))

-- ---- whether two numbers are the same

pub apart : (x y : ℕ) → not (eqb x y) ≡ true → x ≢ y
apart x y h e = let z : true ≡ false = sym h ∙ ap not (eq-eqb x y e) in cc

pub equal : (x y : ℕ) → not (eqb x y) ≡ false → x ≡ y
equal x y h = elim (ℕ_discrete x y) [ yes e ↦ e | no n ↦ let z : false ≡ true = sym h ∙ ap not (ne_eqb x y n) in cc ]

-- the numbers at origin and destination, and then those at all places
module _ (net : Network) (cut : List ℕ) (H : ℕ) (formed : WellFormed (network.model_of net)) where
  at_origin : number (take net.places cut) (network.model_of net).origin ≡ get_or cut net.origin 0
  at_origin =
      ap (number (take net.places cut)) (origin_model net)
      ∙ get_or-take net.places cut net.origin 0 (origin_in net formed)

  at_destination : number (take net.places cut) (network.model_of net).destination ≡ get_or cut net.destination 0
  at_destination =
      ap (number (take net.places cut)) (destination_model net)
      ∙ get_or-take net.places cut net.destination 0 (destination_in net formed)

  pub miscut_origin : get_or cut net.origin 0 ≢ 0 → true ≡ miscut (network.model_of net) H (take net.places cut)
  unfolding miscut
  miscut_origin n = rw (ne_eqb _ 0 (λ e. n (sym at_origin ∙ e)))

  module _ (slots : ℕ) (counts : slots ≡ counting H) where
    pub miscut_destination : get_or cut net.origin 0 ≡ 0 → get_or cut net.destination 0 ≢ slots
        → true ≡ miscut (network.model_of net) H (take net.places cut)
    unfolding miscut
    miscut_destination o n = rw (← counts, eq-eqb _ 0 (at_origin ∙ o), ne_eqb _ slots (λ e. n (sym at_destination ∙ e)))

    pub miscut_above : get_or cut net.origin 0 ≡ 0 → get_or cut net.destination 0 ≡ slots
        → some (high cut net.places slots) net.places ≡ miscut (network.model_of net) H (take net.places cut)
    unfolding miscut
    miscut_above o d =
        rw (← counts, eq-eqb _ 0 (at_origin ∙ o), eq-eqb _ slots (at_destination ∙ d))
        (ap (some (high cut net.places slots)) (sym (places_model net)))
