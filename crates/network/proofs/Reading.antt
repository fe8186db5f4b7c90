-- What is known of a link that was accepted. Assumes nothing.
use mathlib.Core.Path.{◌≡◌, ap, subst, ◌∙◌}
use mathlib.Core.List.{List}
use Prim.Native.Nat.{ℕ, ◌-◌}
use lib.Dec.{eqb}
use borrow.Author.Tests.{eqb-false}
use Rattle.limits.specs.Limits.{most_capacity, most_transit}
use Rattle.refusals.specs.declared.Refusal.TheVariants.{LinkLoop}
use Rattle.numbers.specs.Field.{accepted}
use Rattle.numbers.proofs.Parses.{then_accepted, test_accepted}
use Rattle.flows.specs.declared.Link.{Link}
use Rattle.network.specs.Record.{number, read_link}

pub record LinkWas (places : ℕ) (s : List ℕ) (l : Link) (rest : List ℕ) : Type 0 where
  pub s₁ : List ℕ
  pub s₂ : List ℕ
  pub s₃ : List ℕ
  pub start : number 0 (places - 1) s ≡ accepted l.start s₁
  pub end : number 0 (places - 1) s₁ ≡ accepted l.end s₂
  pub apart : l.start ≡ l.end → ⊥
  pub capacity : number 0 most_capacity s₂ ≡ accepted l.capacity s₃
  pub transit : number 0 most_transit s₃ ≡ accepted l.transit rest

pub link_was : (places : ℕ) (s : List ℕ) (l : Link) (rest : List ℕ) → read_link places s ≡ accepted l rest → LinkWas places s l rest
unfolding read_link
link_was places s l rest h =
    let a = then_accepted _ _ l rest h in
    let b = then_accepted _ _ l rest a.3 in
    let t = test_accepted (eqb a.0 b.0) LinkLoop _ l rest b.3 in
    let c = then_accepted _ _ l rest t.1 in
    let d = then_accepted _ _ l rest c.3 in
    let g : accepted (record { start = a.0; end = b.0; capacity = c.0; transit = d.0 }) d.1 ≡ accepted l rest = d.3 in
    let e : record { start = a.0; end = b.0; capacity = c.0; transit = d.0 } ≡ l = cc in
    let r : d.1 ≡ rest = cc in
    subst (λ k. LinkWas places s k rest) e (record {
      s₁ = a.1;
      s₂ = b.1;
      s₃ = c.1;
      start = a.2;
      end = b.2;
      apart = eqb-false a.0 b.0 t.0;
      capacity = c.2;
      transit = d.2 ∙ ap (accepted d.0) r;
    })
