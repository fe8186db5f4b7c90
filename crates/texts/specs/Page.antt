-- A text in a lent buffer: what is answered and left for every text and every buffer.
use Rattle.std.specs.Prelude.{List, cond, ℕ, length, ltb, Result, Ok, Err, ⊤}
use Rattle.refusals.specs.Numbers.{number_of}
use Rattle.numbers.specs.Leb128.{over}
use Rattle.numbers.specs.Field.{Parse, refused, accepted}
use Rattle.texts.specs.declared.Short.{Short}
use Rattle.texts.specs.Lines.{refused_text}

-- the octets asked of the buffer: every text fits
abbrev pub text_most : ℕ
text_most = 131072

-- what is answered where the buffer is too short
abbrev pub short : Short
short = record {}

-- whether a buffer of this many octets has room for every text
abbrev pub room_for : ℕ → Result ⊤ Short
room_for room = cond (ltb room text_most) (Err short) (Ok tt)

-- the answer for a buffer of this many octets: the text's length, or that the buffer is too short
abbrev pub paged_answer : List ℕ → ℕ → Result ℕ Short
paged_answer text room = cond (ltb room text_most) (Err short) (Ok (length text))

-- the buffer after it: the text at its front, and the octets past the text as before; a buffer too short is as it was
abbrev pub paged_buffer : List ℕ → List ℕ → List ℕ
paged_buffer text buffer = cond (ltb (length buffer) text_most) buffer (over text buffer)

-- the text for what was read: the line of its refusal, or its own
unfoldable pub text_of : Parse (List ℕ) → List ℕ
text_of (refused e) = refused_text (number_of e)
text_of (accepted text rest) = text
