-- A text in a lent buffer: the answer where it was left and where the text was put, and that the length answered is within it. Assumes
-- nothing.
use mathlib.Core.Path.{◌≡◌, ap}
use mathlib.Core.List.{List}
use Prim.Native.Nat.{ℕ, ◌^◌, ◌≤◌, ◌<◌}
use native.Mathlib.Omega.{arith}
use native.Mathlib.Decide.{dec_lt}
use lib.ListN.{length, length-append}
use borrow.Author.Tests.{lt-ltb, le-ltb}
use Rattle.numbers.specs.Leb128.{over}
use Rattle.std.specs.Prelude.{Result, Ok, Err, ⊤}
use Rattle.texts.specs.declared.Short.{Short}
use Rattle.texts.specs.Lines.{refused_text}
use Rattle.texts.specs.Put.{Put}
use Rattle.texts.specs.Page.{text_most, short, room_for, paged_answer, paged_buffer}
use Rattle.texts.proofs.Decimal.{length_decimal}

module _ (text before : List ℕ) where
  pub paged_short : length before < text_most → (Err short ≡ paged_answer text (length before)) × (before ≡ paged_buffer text before)
  paged_short h = (rw (lt-ltb (length before) text_most h), rw (lt-ltb (length before) text_most h))

  pub paged_put : (after : List ℕ) (r : ℕ) → text_most ≤ length before → Put text before after r
      → (Ok r ≡ paged_answer text (length before)) × (after ≡ paged_buffer text before)
  paged_put after r h p = (rw (le-ltb (length before) text_most h) (ap Ok p.size), rw (le-ltb (length before) text_most h) p.written)

  -- what the test of the room says
  pub room_short : (e : Short) → Err e ≡ room_for (length before) → length before < text_most
  room_short e h = elim (dec_lt (length before) text_most) [
    | yes l ↦ l
    | no g ↦
        let t : ◌≡◌ {A = Result ⊤ Short} (Err e) (Ok tt) = rw (le-ltb (length before) text_most (omega arith)) at h in
        absurd (let z : ◌≡◌ {A = ℕ} 0 1 = cc in omega arith)
  ]

  pub room_enough : (u : ⊤) → Ok u ≡ room_for (length before) → text_most ≤ length before
  room_enough u h = elim (dec_lt (length before) text_most) [
    | yes l ↦
        let t : ◌≡◌ {A = Result ⊤ Short} (Ok u) (Err short) = rw (lt-ltb (length before) text_most l) at h in
        absurd (let z : ◌≡◌ {A = ℕ} 0 1 = cc in omega arith)
    | no g ↦ omega arith
  ]

  -- the length answered is within the buffer
  pub paged_within : (after : List ℕ) (n : ℕ) → Ok n ≡ paged_answer text (length before) → after ≡ paged_buffer text before → n ≤ length after
  paged_within after n a b = elim (dec_lt (length before) text_most) [
    | yes l ↦ let e : ◌≡◌ {A = Result ℕ Short} (Ok n) (Err short) = rw (lt-ltb (length before) text_most l) at a in cc
    | no g ↦
        let l : text_most ≤ length before = omega arith in
        let e : ◌≡◌ {A = Result ℕ Short} (Ok n) (Ok (length text)) = rw (le-ltb (length before) text_most l) at a in
        let m : n ≡ length text = cc in
        let f : after ≡ over text before = rw (le-ltb (length before) text_most l) at b in
        omega (arith, simp length-append at (ap length f))
  ]

-- a refusal's line fits
pub refusal_short : (e : ℕ) → e < 10 ^ 10 → length (refused_text e) ≤ text_most
unfolding refused_text
refusal_short e h = simp length-append (omega (arith, length_decimal 9 e h))
