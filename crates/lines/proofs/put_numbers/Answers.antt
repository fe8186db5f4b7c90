-- `put_numbers` meets its contract: after some turns the first numbers stand in the part, and each turn puts the next into the part after
-- them. Assumes nothing.
use Rattle.std.proofs.Common.{◌≡◌, ℕ, List, ◌<◌, length, get_or, map, sym, ap, ◌∙◌, arith}
use Rattle.std.proofs.lemmas.List.{length-map, get_or-map}
use Rattle.texts.specs.Put.{spaced, all_spaced}
use Rattle.texts.proofs.Putting.{put_same, fits_same}
use Rattle.texts.proofs.InOrder.{in_order, number_text, numbers_order, upto_none, upto_more, upto_all, upto_start, upto_part, upto_end}
use Rattle.lines.proofs.put_numbers.Goals as goal

module _ {A : Type 0} (f : A → ℕ) (xs : List A) where
  in_turns : all_spaced (map f xs) ≡ in_order (number_text (map f xs)) (length xs)
  in_turns = numbers_order (map f xs) ∙ ap (in_order (number_text (map f xs))) (length-map xs f)

  -- what is put in turn i
  turn : (i n : ℕ) (x : A) → i < length xs → x ≡ get_or xs i x → n ≡ f x → spaced n ≡ number_text (map f xs) i
  turn i n x h e v = ap spaced (v ∙ ap f e ∙ sym (get_or-map f xs i x 0 h))

pub loop-n-init : goal.loop-n-init
loop-n-init g c = upto_none _ _ _

pub slice_bounds-put_spaced-count : goal.slice_bounds-put_spaced-count
slice_bounds-put_spaced-count g c =
    upto_start _ _ _ _ _ _ c.loop-n.invariant c.loop-n-test.true (fits_same _ _ (in_turns g.T.Number.value c.args.numbers.now) c.requires)

pub slice_bounds-put_spaced-start : goal.slice_bounds-put_spaced-start
slice_bounds-put_spaced-start g c =
    upto_start _ _ _ _ _ _ c.loop-n.invariant c.loop-n-test.true (fits_same _ _ (in_turns g.T.Number.value c.args.numbers.now) c.requires)

pub put_spaced-at-requires : goal.put_spaced-at-requires
put_spaced-at-requires g c =
    fits_same _ _ (sym (turn g.T.Number.value _ _ _ _ c.loop-n-test.true c.n-item.is c.number.ensures))
    (upto_part _ _ _ _ _ _ c.loop-n.invariant c.loop-n-test.true (fits_same _ _ (in_turns g.T.Number.value c.args.numbers.now) c.requires))

pub overflow_add-at : goal.overflow_add-at
overflow_add-at g c =
    let put = put_same (turn g.T.Number.value _ _ _ _ c.loop-n-test.true c.n-item.is c.number.ensures) c.put_spaced-at.ensures in
    omega (arith, upto_end _ _ _ _ _ _ c.loop-n.invariant c.loop-n-test.true (fits_same _ _ (in_turns g.T.Number.value c.args.numbers.now) c.requires) _ put.size)

pub loop-n-preserved : goal.loop-n-preserved
loop-n-preserved g c =
    let put = put_same (turn g.T.Number.value _ _ _ _ c.loop-n-test.true c.n-item.is c.number.ensures) c.put_spaced-at.ensures in
    upto_more _ _ _ _ _ _ _ _ c.loop-n-test.true c.loop-n.invariant put

pub returns : goal.returns
returns g c = put_same (sym (in_turns g.T.Number.value c.args.numbers.now)) (upto_all _ _ _ _ _ _ c.loop-n-test.false c.loop-n.invariant)
