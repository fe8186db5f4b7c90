-- `links_of` stores one link in a turn. Assumes nothing.
use mathlib.Core.Path.{◌≡◌, sym, ap, ◌∙◌}
use Prim.Native.Nat.{ℕ, ◌+◌, ◌<◌}
use native.Mathlib.Omega.{arith}
use native.Mathlib.Decide.{dec_lt}
use mathlib.Core.List.{List}
use lib.ListN.{length, get_or, set, length-set, length-replicate}
use Rattle.std.proofs.lemmas.List.{get_or-set_other}
use Rattle.std.proofs.lemmas.Grind.{get_or-set_at}
use Rattle.flows.specs.declared.Link.{Link}
use Rattle.flows.specs.Network.{no_link}
use Rattle.table_reader.specs.Links.{link_in}
use Rattle.table_reader.proofs.links_of.Goals as goal

-- one link more
more : (numbers : List ℕ) (links : List Link) (e : ℕ) → e < length links → ((k : ℕ) → k < e → get_or links k no_link ≡ link_in numbers k)
    → (k : ℕ) → k < e + 1 → get_or (set links e (link_in numbers e)) k no_link ≡ link_in numbers k
more numbers links e inside below k h = elim (dec_lt k e) [
  | yes l ↦ get_or-set_other links e k (link_in numbers e) no_link (λ q. omega (arith, q)) ∙ below k l
  | no g ↦
      let q : k ≡ e = omega arith in
      get_or-set_at links e k (link_in numbers e) no_link q inside ∙ sym (ap (link_in numbers) q)
]

pub loop-e-init : goal.loop-e-init
loop-e-init c = (omega arith, length-replicate {A = Link} 256 no_link, λ k h. absurd (omega arith))

pub loop-e-preserved : goal.loop-e-preserved
loop-e-preserved c =
    let l = c.loop-e in
    let size = l.invariant.1 in
    (omega arith, length-set l.links l.e _ ∙ size, more c.args.numbers.now l.links l.e (omega (arith, size)) l.invariant.2)

pub returns : goal.returns
returns c e h = c.loop-e.invariant.2 e (omega arith)
