-- `take_off` takes the rate off a link in a turn, which has it: a chain's links together have as much as the chain takes off them. Assumes
-- nothing.
use Rattle.std.proofs.Common.{◌≡◌, ◌∙◌, ◌<◌, ◌≤◌, ◌+◌, ◌-◌, ◌∷◌, List, ℕ, ap, subst, length, get_or, set, drop, arith}
use Rattle.std.proofs.lemmas.List.{drop_more}
use lib.ListN.{length-set}
use Rattle.turns.specs.Turn.{lessened, Holds}
use Rattle.turns.proofs.Peeling.{holds_first, holds_later}
use Rattle.turns.proofs.take_off.Invariants.{Taking}
use Rattle.turns.proofs.take_off.Goals as goal

module _ {links : List ℕ} {rate : ℕ} {flow left : List ℕ} {i : ℕ} (t : Taking links rate flow left i) (h : i < length links)
    (link : ℕ) (is : link ≡ get_or links i 0) where
  ahead : drop i links ≡ link ∷ drop (i + 1) links
  ahead = rw is (drop_more links i 0 h)

  holds : Holds left rate (link ∷ drop (i + 1) links)
  holds = subst (λ (es : List ℕ). Holds left rate es) ahead t.holds

  has : rate ≤ get_or left link 0
  has = holds_first left rate link (drop (i + 1) links) holds

  more : link < 256 → Taking links rate flow (set left link (get_or left link 0 - rate)) (i + 1)
  more few = record {
    size = length-set left link (get_or left link 0 - rate) ∙ t.size;
    same = t.same ∙ ap (lessened left rate) ahead;
    holds = holds_later left rate link (drop (i + 1) links) holds (omega (arith, t.size));
  }

pub overflow_sub-left : goal.overflow_sub-left
overflow_sub-left c = has c.loop-link.invariant c.loop-link-test.true c.from.result c.from.ensures

pub loop-link-preserved : goal.loop-link-preserved
loop-link-preserved c =
    more c.loop-link.invariant c.loop-link-test.true c.from.result c.from.ensures
    (omega (arith, c.from.ensures, (c.type_inv.links c.loop-link.link-index).fits))
