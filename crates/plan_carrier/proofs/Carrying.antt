-- A number and a network's record, written one after another, are what a plan that carries the network opens with; with the plan's numbers
-- behind them they are its record. Assumes nothing.
use mathlib.Core.Path.{◌≡◌, ap, ◌∙◌}
use mathlib.Core.List.{List, [], ◌∷◌, ◌++◌, append_assoc}
use Prim.Native.Nat.{ℕ, ◌+◌, ◌≤◌}
use native.Mathlib.Omega.{arith}
use lib.ListN.{length, length-append}
use Rattle.limits.specs.Limits.{most_network_octets}
use Rattle.numbers.specs.Leb128.{groups, shortest, encode, over, over_at}
use Rattle.numbers.specs.Writing.{Writable}
use Rattle.numbers.proofs.Written.{over_at_lem, encode_one, length_over_at, length_over}
use Rattle.numbers.proofs.Stages.{front_all}
use Rattle.flows.specs.Plan.{Plan}
use Rattle.plans.specs.Record.{record_of}
use Rattle.plans.specs.Carried.{carrying}
use Rattle.plan_carrier.specs.Carriable.{opening}

-- what is written at a position, and from the first octet on
abbrev pub At : List ℕ → List ℕ → ℕ → List ℕ → ℕ → Type 0
At e before at after end = (end ≡ at + length e) × (after ≡ over_at at e before)

abbrev pub Front : List ℕ → List ℕ → List ℕ → ℕ → Type 0
Front e before after end = (end ≡ length e) × (after ≡ over e before)

-- one part behind another
behind : (e x b₀ b₁ b₂ : List ℕ) (p q : ℕ) → Front e b₀ b₁ p → At x b₁ p b₂ q → Front (e ++ x) b₀ b₂ q
behind e x b₀ b₁ b₂ p q f a =
    (omega (arith, a.0, f.0, length-append e x), a.1 ∙ over_at_lem e x b₀ b₁ p f.1 f.0)

----- The length and the copy

module _ (network : List ℕ) (b₀ : List ℕ) (short : length network ≤ most_network_octets) (room : length (opening network) ≤ length b₀) where
  sizes : length (encode (length network ∷ [])) + length network ≤ length b₀
  unfolding opening
  sizes = omega (arith, room, ap length (encode_one (length network)), length-append (shortest groups (length network)) network)

  pub length_writable : Writable (length network ∷ []) b₀ 0
  length_writable = record { fit = (omega arith, tt); room = omega (arith, sizes) }

  module _ (b₁ : List ℕ) (copy : ℕ) (a : At (encode (length network ∷ [])) b₀ 0 b₁ copy) where
    pub copy_fits : copy + length network ≤ length b₁
    copy_fits =
        let size : length b₁ ≡ length b₀ = ap length a.1 ∙ length_over_at (encode (length network ∷ [])) b₀ 0 (omega (arith, sizes)) in
        omega (arith, a.0, sizes)

    pub opened : (b₂ : List ℕ) (end : ℕ) → At network b₁ copy b₂ end → Front (opening network) b₀ b₂ end
    unfolding opening
    opened b₂ end b =
        rw (← encode_one (length network))
        (behind (encode (length network ∷ [])) network b₀ b₁ b₂ copy end (front_all (length network ∷ []) b₀ b₁ copy a) b)

----- The plan behind them

carrying_opens : (network : List ℕ) (p : Plan) → opening network ++ record_of p ≡ carrying network p
unfolding opening carrying
carrying_opens network p = append_assoc (shortest groups (length network)) network (record_of p)

pub opening_short : (network : List ℕ) (p : Plan) → length (opening network) + length (record_of p) ≡ length (carrying network p)
opening_short network p = omega (arith, length-append (opening network) (record_of p), ap length (carrying_opens network p))

module _ (network : List ℕ) (p : Plan) (b₀ b₁ : List ℕ) (body : ℕ) (f : Front (opening network) b₀ b₁ body) (room : length (carrying network p) ≤ length b₀) where
  pub body_fits : body + length (record_of p) ≤ length b₁
  body_fits =
      let size : length b₁ ≡ length b₀ = ap length f.1 ∙ length_over (opening network) b₀ (omega (arith, opening_short network p)) in
      omega (arith, f.0, opening_short network p)

  pub carried : (b₂ : List ℕ) (end : ℕ) → At (record_of p) b₁ body b₂ end → Front (carrying network p) b₀ b₂ end
  carried b₂ end a = rw (← carrying_opens network p) (behind (opening network) (record_of p) b₀ b₁ b₂ body end f a)
