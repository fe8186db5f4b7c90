-- `put_triple` meets its contract: each way stores the digits that the table's entry holds for it. Assumes nothing.
use mathlib.Core.Path.{◌≡◌, sym, ap}
use mathlib.Core.List.{List}
use mathlib.Core.Bool.{false}
use mathlib.Core.Logic.{◌⊎◌, inl, inr}
use Prim.Native.Nat.{ℕ, ◌≤◌}
use native.Mathlib.Omega.{arith}
use lib.ListN.{length, length-set}
use Rattle.texts.proofs.Triples.{triple_one, triple_two, triple_three}
use Rattle.texts.proofs.Putting.{put_same, put_one, put_two, put_three}
use Rattle.decimals.proofs.put_triple.Goals as goal
use Rattle.decimals.proofs.put_triple.Goals.{then-first+else-n-lt10+else-n-lt100, else-first}

-- a text of some digits has room where it is as long as the part at most
room : (text digits : List ℕ) (k : ℕ) → text ≡ digits → length text ≤ k → length digits ≤ k
room text digits k e h = omega (arith, ap length e)

pub bounds-part-0 : goal.bounds-part-0
bounds-part-0 c = room _ _ _ (triple_one _ c.args.n c.packed-packed.ensures c.args.first c.if-first.true c.if-n-lt10.true) c.requires.room

pub returns-then-n-lt10 : goal.returns-then-n-lt10
returns-then-n-lt10 c =
    let e = triple_one _ c.args.n c.packed-packed.ensures c.args.first c.if-first.true c.if-n-lt10.true in
    put_same (sym e) (put_one _ _ (room _ _ _ e c.requires.room))

pub bounds-part-0-then-n-lt100 : goal.bounds-part-0-then-n-lt100
bounds-part-0-then-n-lt100 c =
    let e = triple_two _ c.args.n c.packed-packed.ensures c.args.first c.if-first.true c.if-n-lt10.false c.if-n-lt100.true in
    omega (arith, room _ _ _ e c.requires.room)

pub bounds-part-1 : goal.bounds-part-1
bounds-part-1 c =
    let e = triple_two _ c.args.n c.packed-packed.ensures c.args.first c.if-first.true c.if-n-lt10.false c.if-n-lt100.true in
    rw length-set (room _ _ _ e c.requires.room)

pub returns-then-n-lt100 : goal.returns-then-n-lt100
returns-then-n-lt100 c =
    let e = triple_two _ c.args.n c.packed-packed.ensures c.args.first c.if-first.true c.if-n-lt10.false c.if-n-lt100.true in
    put_same (sym e) (put_two _ _ _ (room _ _ _ e c.requires.room))

pub bounds-part-0-2 : goal.bounds-part-0-2
bounds-part-0-2 c =
    let way : (c.args.first ≡ false) ⊎ (100 ≤ c.args.n) = elim c.if-first.branch [
      | then-first+else-n-lt10+else-n-lt100 w ↦ inr w.if-n-lt100.false
      | else-first w ↦ inl w.if-first.false
    ] in
    omega (arith, room _ _ _ (triple_three _ c.args.n c.packed-packed.ensures c.args.first way c.requires.triple) c.requires.room)

pub bounds-part-1-2 : goal.bounds-part-1-2
bounds-part-1-2 c =
    let way : (c.args.first ≡ false) ⊎ (100 ≤ c.args.n) = elim c.if-first.branch [
      | then-first+else-n-lt10+else-n-lt100 w ↦ inr w.if-n-lt100.false
      | else-first w ↦ inl w.if-first.false
    ] in
    rw length-set (omega (arith, room _ _ _ (triple_three _ c.args.n c.packed-packed.ensures c.args.first way c.requires.triple) c.requires.room))

pub bounds-part-2 : goal.bounds-part-2
bounds-part-2 c =
    let way : (c.args.first ≡ false) ⊎ (100 ≤ c.args.n) = elim c.if-first.branch [
      | then-first+else-n-lt10+else-n-lt100 w ↦ inr w.if-n-lt100.false
      | else-first w ↦ inl w.if-first.false
    ] in
    rw (length-set, length-set) (room _ _ _ (triple_three _ c.args.n c.packed-packed.ensures c.args.first way c.requires.triple) c.requires.room)

pub returns : goal.returns
returns c =
    let way : (c.args.first ≡ false) ⊎ (100 ≤ c.args.n) = elim c.if-first.branch [
      | then-first+else-n-lt10+else-n-lt100 w ↦ inr w.if-n-lt100.false
      | else-first w ↦ inl w.if-first.false
    ] in
    let e = triple_three _ c.args.n c.packed-packed.ensures c.args.first way c.requires.triple in
    put_same (sym e) (put_three _ _ _ _ (room _ _ _ e c.requires.room))
