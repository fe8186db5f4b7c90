-- One pass over a log with what each link has taken in the slot looked at: entries stand in the order of their slots, so that nothing was
-- taken before in a slot that comes up. Assumes nothing.
use mathlib.Core.Path.{◌≡◌, sym, ap, subst, ◌∙◌}
use mathlib.Core.Logic.{◌≢◌}
use mathlib.Core.List.{List}
use mathlib.Core.Bool.{true, false, cond}
use Prim.Native.Nat.{ℕ, suc, ◌+◌, ◌*◌, ◌≤◌, ◌<◌}
use native.Mathlib.Numerals.{add-one}
use native.Mathlib.Omega.{arith}
use native.Mathlib.Decide.{ℕ_discrete}
use lib.ListN.{length, get_or, set, replicate, length-set, length-replicate}
use lib.Seq.{get_or-set_same, get_or-set_other}
use lib.Dec.{eqb}
use borrow.Author.Tests.{eq-eqb, ne_eqb}
use Rattle.limits.specs.Limits.{most_links, most_log_entries, most_log_blocks}
use Rattle.flows.specs.Sums.{only}
use Rattle.flows.specs.Network.{WellFormed}
use Rattle.flows.proofs.Sums.{sum_eq, sum_zero, sum_most, only_same, only_other, only_zero, only_most}
use Rattle.flows.proofs.Lists.{get_or_zeros}
use Rattle.network.specs.declared.Network.{Network}
use Rattle.network.specs.Held as network
use Rattle.network.proofs.Model.{count_model, link_model}
use Rattle.logs.specs.declared.Entry.{Entry}
use Rattle.logs.specs.Columns.{nth, link_of, slot_of, blocks_of, puts, Given}
use Rattle.logs.specs.Finding.{overfull}
use Rattle.logs.proofs.Tests.{overfull_found, overfull_none}
use Rattle.logs.proofs.Columns.{columns_in, sound_in, linked}

-- what an entry's link has taken in its slot, up to it
abbrev pub up_to : List Entry → ℕ → ℕ
up_to es i = puts (link_of es) (slot_of es) (blocks_of es) (suc i) (link_of es i) (slot_of es i)

pub record Taking (net : Network) (es : List Entry) (taken : List ℕ) (now i : ℕ) : Type 0 where
  pub within : i ≤ length es
  pub size : length taken ≡ most_links
  pub holds : (e : ℕ) → nth taken e ≡ puts (link_of es) (slot_of es) (blocks_of es) i e now
  pub past : (j : ℕ) → j < i → slot_of es j ≤ now
  pub soon : (j : ℕ) → i ≤ j → j < length es → now ≤ slot_of es j
  pub fit : (j : ℕ) → j < i → up_to es j ≤ (network.link_at net (link_of es j)).capacity

module _ (net : Network) (es : List Entry) (formed : WellFormed (network.model_of net)) (given : Given net.count es) where
  pub taking_none : (taken : List ℕ) → taken ≡ replicate most_links 0 → Taking net es taken 0 0
  taking_none taken e = record {
    within = omega arith;
    size = ap length e ∙ length-replicate {A = ℕ} most_links 0;
    holds = λ d. ap (λ (xs : List ℕ). get_or xs d 0) e ∙ get_or_zeros most_links d;
    past = λ j p. absurd (omega arith);
    soon = λ j p q. omega arith;
    fit = λ j p. absurd (omega arith);
  }

  module _ (taken : List ℕ) (now i : ℕ) (t : Taking net es taken now i) (more : i < length es) (fresh : List ℕ)
      (e : fresh ≡ cond (eqb now (slot_of es i)) taken (replicate most_links 0)) where
    -- nothing was taken before in a slot that comes up
    none_yet : now ≢ slot_of es i → (d : ℕ) → puts (link_of es) (slot_of es) (blocks_of es) i d (slot_of es i) ≡ 0
    none_yet q d =
        sum_eq i (λ j p.
        ap (only (link_of es j) d) (only_other (slot_of es j) (slot_of es i) (blocks_of es j) (λ z. q (omega (arith, t.past j p, t.soon i (omega arith) more))))
        ∙ only_zero (link_of es j) d)
        ∙ sum_zero i

    pub fresh_holds : (d : ℕ) → nth fresh d ≡ puts (link_of es) (slot_of es) (blocks_of es) i d (slot_of es i)
    fresh_holds d =
        elim (ℕ_discrete now (slot_of es i)) [
          | yes q ↦
              ap (λ (xs : List ℕ). get_or xs d 0) (rw (eq-eqb now (slot_of es i) q) at e) ∙ t.holds d
              ∙ ap (puts (link_of es) (slot_of es) (blocks_of es) i d) q
          | no q ↦
              ap (λ (xs : List ℕ). get_or xs d 0) (rw (ne_eqb now (slot_of es i) q) at e) ∙ get_or_zeros most_links d ∙ sym (none_yet q d)
        ]

    pub fresh_size : length fresh ≡ most_links
    fresh_size =
        elim (ℕ_discrete now (slot_of es i)) [
          | yes q ↦ ap length (rw (eq-eqb now (slot_of es i) q) at e) ∙ t.size
          | no q ↦ ap length (rw (ne_eqb now (slot_of es i) q) at e) ∙ length-replicate {A = ℕ} most_links 0
        ]

    pub known : link_of es i < most_links
    known = linked net es formed given i more

    -- with the entry's own blocks
    pub sum_is : nth fresh (link_of es i) + blocks_of es i ≡ up_to es i
    sum_is =
        omega (
          arith,
          fresh_holds (link_of es i),
          only_same (link_of es i) (only (slot_of es i) (slot_of es i) (blocks_of es i)),
          only_same (slot_of es i) (blocks_of es i),
        )

    pub sum_small : nth fresh (link_of es i) + blocks_of es i ≤ most_log_blocks * most_log_entries
    sum_small =
        omega (
          arith,
          sum_is,
          given.few,
          sum_most (λ j. only (link_of es j) (link_of es i) (only (slot_of es j) (slot_of es i) (blocks_of es j))) most_log_blocks (suc i) (λ j p.
              omega (
                arith,
                only_most (link_of es j) (link_of es i) (only (slot_of es j) (slot_of es i) (blocks_of es j)),
                only_most (slot_of es j) (slot_of es i) (blocks_of es j),
                given.small j (omega arith),
              )),
        )

    pub taking_more : nth fresh (link_of es i) + blocks_of es i ≤ (network.link_at net (link_of es i)).capacity
        → Taking net es (set fresh (link_of es i) (nth fresh (link_of es i) + blocks_of es i)) (slot_of es i) (i + 1)
    taking_more fits = record {
      within = omega arith;
      size = length-set fresh (link_of es i) _ ∙ fresh_size;
      holds =
          λ d. rw add-one (elim (ℕ_discrete d (link_of es i)) [
            | yes q ↦
                subst
                (λ (k : ℕ). nth (set fresh (link_of es i) (nth fresh (link_of es i) + blocks_of es i)) k ≡ puts (link_of es) (slot_of es) (blocks_of es) (suc i) k (slot_of es i))
                (sym q) (get_or-set_same fresh (link_of es i) _ 0 (omega (arith, fresh_size, known)) ∙ sum_is)
            | no q ↦
                get_or-set_other fresh (link_of es i) d _ 0 q
                ∙ omega (arith, fresh_holds d, only_other (link_of es i) d (only (slot_of es i) (slot_of es i) (blocks_of es i)) (λ z. q (sym z)))
          ]);
      past = λ j p. given.ordered j i (omega arith) more;
      soon = λ j p q. given.ordered i j (omega arith) q;
      fit =
          λ j p. elim (ℕ_discrete j i) [
            | yes q ↦ subst (λ (k : ℕ). up_to es k ≤ (network.link_at net (link_of es k)).capacity) (sym q) (omega (arith, sum_is))
            | no q ↦ t.fit j (omega arith)
          ];
    }

-- what the pass finds
module _ (net : Network) (es : List Entry) (given : Given net.count es) where
  pub found : (i : ℕ) → i < length es → (network.link_at net (link_of es i)).capacity < up_to es i → overfull (network.model_of net) es ≡ true
  found i p over =
      overfull_found (network.model_of net) es (columns_in es) (sound_in es net.count _ (sym (count_model net)) given) i p
      (rw (link_model net (link_of es i) (given.known i p)) over)

  pub none : ((i : ℕ) → i < length es → up_to es i ≤ (network.link_at net (link_of es i)).capacity) → overfull (network.model_of net) es ≡ false
  none fit =
      overfull_none (network.model_of net) es (columns_in es) (sound_in es net.count _ (sym (count_model net)) given) (λ i p.
      rw (link_model net (link_of es i) (given.known i p)) (fit i p))
