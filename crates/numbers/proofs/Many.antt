-- Parts of one kind, read one after another, as a plan's cut, a row's links and a plan's rows are: each law about them is proved here once,
-- over the kind of part. Assumes nothing.
use mathlib.Core.Path.{◌≡◌, refl, sym, ap, ◌∙◌}
use mathlib.Core.List.{List, [], ◌∷◌, ◌++◌, append_assoc, append-nil}
use mathlib.Core.Bool.{Bool, true, false, cond}
use Prim.Native.Nat.{ℕ, zero, suc, ◌+◌, ◌-◌, ◌≤◌, ◌<◌}
use native.Mathlib.Nat.{sub-zero}
use native.Mathlib.Omega.{arith}
use lib.ListN.{length, get_or, drop, length-append, length-drop}
use lib.Seq.{drop-drop, drop_at, append_snoc}
use borrow.Author.Tests.{ne_eqb}
use Rattle.numbers.specs.declared.Refusals.{Refusals}
use Rattle.numbers.specs.Leb128.{Octets}
use Rattle.numbers.specs.Field.{ParseBy, refused, accepted, and_then, field, fields, complete}
use Rattle.numbers.proofs.Fields.{field_accepted, octets_rest}
use Rattle.numbers.proofs.Parses.{then_accepted}

----- One part after another

-- the octets that remain are the end of those that were there
pub record Behind (s rest : List ℕ) : Type 0 where
  pub front : List ℕ
  pub split : s ≡ front ++ rest

pub behind_same : (s : List ℕ) → Behind s s
behind_same s = record { front = []; split = refl }

pub behind_behind : (s t rest : List ℕ) → Behind s t → Behind t rest → Behind s rest
behind_behind s t rest a b =
    record { front = a.front ++ b.front; split = a.split ∙ ap (λ (x : List ℕ). a.front ++ x) b.split ∙ sym (append_assoc a.front b.front rest) }

-- a part that is accepted leaves the end of the octets
abbrev pub Proper : {R A : Type 0} → List ℕ → ParseBy R A → Type 0
Proper s (refused e) = Unit {0}
Proper s (accepted a rest) = Behind s rest

proper_behind : {R A : Type 0} (s t : List ℕ) (p : ParseBy R A) → Behind s t → Proper t p → Proper s p
proper_behind s t (refused e) b h = h
proper_behind s t (accepted a rest) b h = behind_behind s t rest b h

pub then_proper : {R A B : Type 0} (s : List ℕ) (p : ParseBy R A) (f : A → List ℕ → ParseBy R B)
    → Proper s p → ((a : A) (t : List ℕ) → Proper t (f a t)) → Proper s (and_then p f)
unfolding and_then
then_proper s (refused e) f h g = h
then_proper s (accepted a t) f h g = proper_behind s t (f a t) h (g a t)

pub test_proper : {R A : Type 0} (s : List ℕ) (t : Bool) (e : R) (p : ParseBy R A) → Proper s p → Proper s (cond t (refused e) p)
test_proper s true e p h = tt
test_proper s false e p h = h

pub complete_proper : {R A : Type 0} (refusal : R) (a : A) (s : List ℕ) → Proper s (complete refusal a s)
unfolding complete
complete_proper refusal a [] = behind_same []
complete_proper refusal a (x ∷ s) = rw (ne_eqb (length (x ∷ s)) 0 (λ e. omega arith)) tt

pub field_proper : {R : Type 0} (r : Refusals R) (low high : ℕ) (s : List ℕ) → Proper s (field r low high s)
field_proper {R} r low high s = go (field r low high s) refl
  where
    go : (p : ParseBy R ℕ) → field r low high s ≡ p → Proper s p
    go (refused e) h = tt
    go (accepted n rest) h =
        let t = (field_accepted r low high s n rest h).taken in
        record { front = t.front; split = t.split }

----- Parts of one kind

-- n parts one after another, behind those read before
unfoldable pub many : {R A : Type 0} → (List ℕ → ParseBy R A) → ℕ → List ℕ → List A → ParseBy R (List A)
many one zero s before = accepted before s
many one (suc n) s before = and_then (one s) λ a t. many one n t (before ++ (a ∷ []))

pub fields_many : {R : Type 0} (r : Refusals R) (n low high : ℕ) (s before : List ℕ) → fields r n low high s before ≡ many (field r low high) n s before
unfolding fields many
fields_many r zero low high s before = refl
fields_many r (suc n) low high s before = λ j. and_then (field r low high s) λ v t. fields_many r n low high t (before ++ (v ∷ [])) j

-- parts that were read, each with the octets before and after it
pub data Run {R A : Type 0} (one : List ℕ → ParseBy R A) : ℕ → List ℕ → List A → List ℕ → Type 0 where
  done : {s : List ℕ} → Run one 0 s [] s
  more : {n : ℕ} {s t rest : List ℕ} {a : A} {parts : List A} → one s ≡ accepted a t → Run one n t parts rest → Run one (suc n) s (a ∷ parts) rest

pub record Found {R A : Type 0} (one : List ℕ → ParseBy R A) (n : ℕ) (s : List ℕ) (before parts : List A) (rest : List ℕ) : Type 0 where
  pub new : List A
  pub split : parts ≡ before ++ new
  pub run : Run one n s new rest

-- the octets of parts, one after another
abbrev pub together : {A : Type 0} → (A → List ℕ) → List A → List ℕ
together octets [] = []
together octets (a ∷ parts) = octets a ++ together octets parts

module _ {R A : Type 0} (one : List ℕ → ParseBy R A) where
  many_done : (s : List ℕ) (before : List A) → many one 0 s before ≡ accepted before s
  unfolding many
  many_done s before = refl

  many_refused : (n : ℕ) (s : List ℕ) (before : List A) (e : R) → one s ≡ refused e → many one (suc n) s before ≡ refused e
  unfolding many and_then
  many_refused n s before e h = rw h

  many_more : (n : ℕ) (s : List ℕ) (before : List A) (a : A) (t : List ℕ) → one s ≡ accepted a t → many one (suc n) s before ≡ many one n t (before ++ (a ∷ []))
  unfolding many and_then
  many_more n s before a t h = rw h

  pub many_proper : ((s : List ℕ) → Proper s (one s)) → (n : ℕ) (s : List ℕ) (before : List A) → Proper s (many one n s before)
  unfolding many
  many_proper h zero s before = behind_same s
  many_proper h (suc n) s before = then_proper s (one s) (λ a t. many one n t (before ++ (a ∷ []))) (h s) (λ a t. many_proper h n t (before ++ (a ∷ [])))

  -- what was read is a run, and a run is what is read
  pub many_run : (n : ℕ) (s : List ℕ) (before parts : List A) (rest : List ℕ) → many one n s before ≡ accepted parts rest → Found one n s before parts rest
  unfolding many
  many_run zero s before parts rest h =
      let e : before ≡ parts = cc in
      let o : s ≡ rest = cc in
      record { new = []; split = sym e ∙ sym (append-nil before); run = rw (← o) done }
  many_run (suc n) s before parts rest h =
      let w = then_accepted (one s) _ parts rest h in
      let i = many_run n w.1 (before ++ (w.0 ∷ [])) parts rest w.3 in
      record { new = w.0 ∷ i.new; split = i.split ∙ append_snoc before w.0 i.new; run = more w.2 i.run }

  pub run_many : {n : ℕ} {s rest : List ℕ} {parts : List A} (before : List A) → Run one n s parts rest → many one n s before ≡ accepted (before ++ parts) rest
  run_many {s = s} before done = many_done s before ∙ ap (λ (x : List A). accepted x s) (sym (append-nil before))
  run_many before (more {n = n} {s = s} {t = t} {rest = rest} {a = a} {parts = parts} e r) =
      many_more n s before a t e ∙ run_many (before ++ (a ∷ [])) r ∙ ap (λ (x : List A). accepted x rest) (append_snoc before a parts)

  pub run_length : {n : ℕ} {s rest : List ℕ} {parts : List A} → Run one n s parts rest → length parts ≡ n
  run_length done = refl
  run_length (more e r) = ap suc (run_length r)

  -- what holds of each part that is accepted holds of each that was read
  pub run_each : (P : A → Type 0) → ((s : List ℕ) (a : A) (t : List ℕ) → one s ≡ accepted a t → P a)
      → {n : ℕ} {s rest : List ℕ} {parts : List A} → Run one n s parts rest → (d : A) (i : ℕ) → i < length parts → P (get_or parts i d)
  run_each P h done d i l = absurd (omega arith)
  run_each P h (more {s = s} {t = t} {a = a} e r) d zero l = h s a t e
  run_each P h (more e r) d (suc i) l = run_each P h r d i (omega arith)

  -- round trips, from those of one part
  pub run_octets : (octets : A → List ℕ) → ((s : List ℕ) (a : A) (t : List ℕ) → Octets s → one s ≡ accepted a t → s ≡ octets a ++ t)
      → {n : ℕ} {s rest : List ℕ} {parts : List A} → Octets s → Run one n s parts rest → s ≡ together octets parts ++ rest
  run_octets octets h o done = refl
  run_octets octets h o (more {s = s} {t = t} {rest = rest} {a = a} {parts = parts} e r) =
      let w = h s a t o e in
      w ∙ ap (λ (x : List ℕ). octets a ++ x) (run_octets octets h (octets_rest s (octets a) t w o) r) ∙ sym (append_assoc (octets a) (together octets parts) rest)

  pub octets_run : (octets : A → List ℕ) (P : A → Type 0) → ((a : A) (t : List ℕ) → P a → one (octets a ++ t) ≡ accepted a t)
      → (d : A) (parts : List A) (rest : List ℕ) → ((i : ℕ) → i < length parts → P (get_or parts i d)) → Run one (length parts) (together octets parts ++ rest) parts rest
  octets_run octets P h d [] rest each = done
  octets_run octets P h d (a ∷ parts) rest each =
      let r = octets_run octets P h d parts rest (λ i l. each (suc i) (omega arith)) in
      rw append_assoc (more (h a (together octets parts ++ rest) (each 0 (omega arith))) r)

----- Reading at a position

-- the position of the octets that remain
pub behind_at : (s : List ℕ) (at : ℕ) (rest : List ℕ) → at ≤ length s → Behind (drop at s) rest → rest ≡ drop (length s - length rest) s
behind_at s at rest h b =
    let l : length s - at ≡ length b.front + length rest = sym (length-drop at s) ∙ ap length b.split ∙ length-append b.front rest in
    let e : length s - length rest ≡ at + length b.front = omega arith in
    rw e (sym (drop_at b.front rest (length b.front) refl) ∙ ap (drop (length b.front)) (sym b.split) ∙ drop-drop (length b.front) at s)

-- in the midst of reading n parts from the position first on: i of them are read, and the answer still to come is the answer
pub record Midway {R A : Type 0} (one : List ℕ → ParseBy R A) (n : ℕ) (s : List ℕ) (first at i : ℕ) (before : List A) : Type 0 where
  pub within : i ≤ n
  pub counted : length before ≡ i
  pub inside : at ≤ length s
  pub same : many one n (drop first s) [] ≡ many one (n - i) (drop at s) before

module _ {R A : Type 0} (one : List ℕ → ParseBy R A) (n : ℕ) (s : List ℕ) (first : ℕ) where
  pub midway_none : first ≤ length s → Midway one n s first first 0 []
  midway_none h = record { within = omega arith; counted = refl; inside = h; same = rw sub-zero }

  module _ (at i : ℕ) (before : List A) (m : Midway one n s first at i before) where
    next : i < n → n - i ≡ suc (n - (i + 1))
    next h = omega arith

    pub midway_refused : (e : R) → i < n → one (drop at s) ≡ refused e → many one n (drop first s) [] ≡ refused e
    midway_refused e h r = m.same ∙ rw (next h) (many_refused one (n - (i + 1)) (drop at s) before e r)

    pub midway_more : (a : A) (w : ℕ) → i < n → one (drop at s) ≡ accepted a (drop w s) → w ≤ length s → Midway one n s first w (i + 1) (before ++ (a ∷ []))
    midway_more a w h r l = record {
      within = omega arith;
      counted = rw length-append (omega (arith, m.counted));
      inside = l;
      same = m.same ∙ rw (next h) (many_more one (n - (i + 1)) (drop at s) before a (drop w s) r);
    }

    pub midway_all : n ≤ i → many one n (drop first s) [] ≡ accepted before (drop at s)
    midway_all h =
        let z : n - i ≡ 0 = omega arith in
        m.same ∙ rw z (many_done one (drop at s) before)
