-- Each test of a link passes, or refuses whatever comes after it: so a link that no test refuses is one within the limits, and the other way round.
-- Assumes nothing.
use mathlib.Core.Path.{◌≡◌, refl, sym, ◌∙◌}
use mathlib.Core.Bool.{Bool, true, false, cond}
use Prim.Native.Nat.{ℕ, ◌-◌, ◌≤◌}
use native.Mathlib.Omega.{arith}
use native.Mathlib.Decide.{dec_lt}
use lib.Dec.{eqb}
use borrow.Author.Tests.{lt-ltb, le-ltb, eqb-false, eq-eqb, ne_eqb}
use Rattle.std.specs.Prelude.{Ok, Err}
use Rattle.refusals.specs.declared.Refusal.{Refusal}
use Rattle.refusals.specs.declared.Refusal.TheVariants.{NetworkLimits, LinkLoop}
use Rattle.limits.specs.Limits.{most_capacity, most_transit}
use Rattle.flows.specs.declared.Link.{Link}
use Rattle.network_check.specs.Check.{Tested, fine, limit, link_refusal}
use Rattle.network.proofs.WellFormed.{LinkIn}

-- A test f takes what comes after it: it passes, and P holds, or it refuses.
pub data Outcome (P : Type 0) (f : Tested → Tested) : Type 0 where
  passes : P → ((next : Tested) → f next ≡ next) → Outcome P f
  refuses : (e : Refusal) → ((next : Tested) → f next ≡ Err e) → Outcome P f

pub both : {P Q : Type 0} (f g : Tested → Tested) → Outcome P f → Outcome Q g → Outcome (P × Q) (λ next. f (g next))
both f g (passes p a) (passes q b) = passes (p, q) (λ n. a (g n) ∙ b n)
both f g (passes p a) (refuses e b) = refuses e (λ n. a (g n) ∙ b n)
both f g (refuses e a) y = refuses e (λ n. a (g n))

pub limited : (low high n : ℕ) → Outcome ((low ≤ n) × (n ≤ high)) (limit low high n)
limited low high n = elim (dec_lt n low) [
  | yes l ↦ refuses NetworkLimits (λ next. rw (lt-ltb n low l))
  | no g ↦ elim (dec_lt high n) [
    | yes m ↦ refuses NetworkLimits (λ next. rw (le-ltb n low (omega arith), lt-ltb high n m))
    | no k ↦ passes (omega arith, omega arith) (λ next. rw (le-ltb n low (omega arith), le-ltb high n (omega arith)))
  ]
]

pub tested : (t : Bool) (e : Refusal) → Outcome (t ≡ false) (cond t (Err e))
tested true e = refuses e (λ next. refl)
tested false e = passes refl (λ next. refl)

-- what the code's test of one number answers
module _ (low high n : ℕ) where
  pub limit_passed : (x : Unit {0}) → Ok x ≡ limit low high n fine → ((low ≤ n) × (n ≤ high)) × ((next : Tested) → limit low high n next ≡ next)
  limit_passed x h = elim (limited low high n) [
    | passes p a ↦ (p, a)
    | refuses e a ↦ absurd (let z : Ok x ≡ Err e = h ∙ a fine in let z : ◌≡◌ {A = ℕ} 0 1 = cc in omega arith)
  ]

  pub limit_stopped : (e : Refusal) → Err e ≡ limit low high n fine → (next : Tested) → limit low high n next ≡ Err e
  limit_stopped e h next = elim (limited low high n) [
    | passes p a ↦ absurd (let z : Err e ≡ fine = h ∙ a fine in let z : ◌≡◌ {A = ℕ} 0 1 = cc in omega arith)
    | refuses d a ↦ a next ∙ sym (a fine) ∙ sym h
  ]

-- and a test of two numbers, by which way it goes
pub equal_stopped : (m n : ℕ) → m ≡ n → (e : Refusal) (next : Tested) → cond (eqb m n) (Err e) next ≡ Err e
equal_stopped m n h e next = rw (eq-eqb m n h) refl

pub equal_passed : (m n : ℕ) → (m ≡ n → ⊥) → (e : Refusal) (next : Tested) → cond (eqb m n) (Err e) next ≡ next
equal_passed m n h e next = rw (ne_eqb m n h) refl

----- Links

link_outcome : (places : ℕ) (l : Link)
    → Outcome (((0 ≤ l.start) × (l.start ≤ places - 1)) × (((0 ≤ l.end) × (l.end ≤ places - 1)) × ((eqb l.start l.end ≡ false)
    × (((0 ≤ l.capacity) × (l.capacity ≤ most_capacity)) × ((0 ≤ l.transit) × (l.transit ≤ most_transit)))))) (link_refusal places l)
unfolding link_refusal
link_outcome places l =
    both _ _ (limited 0 (places - 1) l.start) (both _ _ (limited 0 (places - 1) l.end) (both _ _ (tested (eqb l.start l.end) LinkLoop)
    (both _ _ (limited 0 most_capacity l.capacity) (limited 0 most_transit l.transit))))

-- a link that no test refuses is within the limits, and leaves the answer to the links after it
pub link_passed : (places : ℕ) (l : Link) (x : Unit {0}) → link_refusal places l fine ≡ Ok x
    → LinkIn places l × ((next : Tested) → link_refusal places l next ≡ next)
link_passed places l x h = elim (link_outcome places l) [
  | passes p a ↦ (
    record {
      start_in = p.0.1;
      end_in = p.1.0.1;
      no_loop = eqb-false l.start l.end p.1.1.0;
      capacity_most = p.1.1.1.0.1;
      transit_most = p.1.1.1.1.1;
    },
    a,
  )
  | refuses e a ↦ absurd (let z : Err e ≡ Ok x = sym (a fine) ∙ h in let z : ◌≡◌ {A = ℕ} 0 1 = cc in omega arith)
]

-- a link that is refused decides
pub link_stopped : (places : ℕ) (l : Link) (e : Refusal) → link_refusal places l fine ≡ Err e → (next : Tested) → link_refusal places l next ≡ Err e
link_stopped places l e h next = elim (link_outcome places l) [
  | passes p a ↦ absurd (let z : Err e ≡ fine = sym h ∙ a fine in let z : ◌≡◌ {A = ℕ} 0 1 = cc in omega arith)
  | refuses d a ↦ a next ∙ sym (a fine) ∙ h
]

pub link_fine : (places : ℕ) (l : Link) → LinkIn places l → (next : Tested) → link_refusal places l next ≡ next
unfolding link_refusal
link_fine places l i next =
    rw (
      le-ltb l.start 0 (omega arith),
      le-ltb (places - 1) l.start i.start_in,
      le-ltb l.end 0 (omega arith),
      le-ltb (places - 1) l.end i.end_in,
      ne_eqb l.start l.end i.no_loop,
      le-ltb l.capacity 0 (omega arith),
      le-ltb most_capacity l.capacity i.capacity_most,
      le-ltb l.transit 0 (omega arith),
      le-ltb most_transit l.transit i.transit_most,
    )
