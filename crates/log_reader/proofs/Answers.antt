-- What a caller of `read` learns from its answer: a refusal is the definition's, and otherwise the struct holds the log's entries. Assumes
-- nothing.
use mathlib.Core.Path.{◌≡◌, refl, sym, ap, subst, ◌∙◌}
use mathlib.Core.List.{List, []}
use Prim.Native.Nat.{ℕ, ◌≤◌}
use native.Mathlib.Omega.{arith}
use lib.Seq.{take-append_seam}
use Rattle.std.specs.Prelude.{Ok, Err}
use Rattle.limits.specs.Limits.{most_log_entries}
use Rattle.refusals.specs.declared.Refusal.{Refusal}
use Rattle.numbers.specs.Field.{Parse, refused, accepted}
use Rattle.logs.specs.declared.Entry.{Entry}
use Rattle.logs.specs.Record.{read_log}
use Rattle.logs.specs.Columns.{Given}
use Rattle.logs.proofs.Reading.{WholeLog, log_read}
use Rattle.log_reader.specs.declared.Log.{Log}
use Rattle.log_reader.specs.Held.{held, model_of, GivenLog, log_answer}

-- the log that a log's struct holds is that log
pub model_held : (es : List Entry) → model_of (held es) ≡ es
unfolding model_of held
model_held es = take-append_seam es _

given : (links : ℕ) (es : List Entry) (rest : List ℕ) → 1 ≤ links → WholeLog links most_log_entries es rest → Given links es
given links es rest some w = record {
  few = w.few;
  known = λ i p. omega (arith, w.good.known i p);
  small = w.good.small;
  ordered = w.good.ordered;
  early = w.good.early;
}

-- a log that was read, as its struct holds it
pub record WasRead (links : ℕ) (s : List ℕ) (log : Log) : Type 0 where
  pub reads : read_log links s ≡ accepted (model_of log) []
  pub given : GivenLog links log
  pub few : log.count ≤ most_log_entries

module _ (links : ℕ) (s : List ℕ) where
  pub was_refused : (e : Refusal) → Err e ≡ log_answer (read_log links s) → read_log links s ≡ refused e
  unfolding log_answer
  was_refused e answers = go (read_log links s) answers
    where
      go : (p : Parse (List Entry)) → Err e ≡ log_answer p → p ≡ refused e
      go (refused d) h = let q : e ≡ d = cc in ap refused (sym q)
      go (accepted es rest) h = absurd (let z : ◌≡◌ {A = ℕ} 0 1 = cc in omega arith)

  pub was_read : 1 ≤ links → (log : Log) → Ok log ≡ log_answer (read_log links s) → WasRead links s log
  unfolding log_answer held
  was_read some log answers = go (read_log links s) refl answers
    where
      go : (p : Parse (List Entry)) → read_log links s ≡ p → Ok log ≡ log_answer p → WasRead links s log
      go (refused e) f h = absurd (let z : ◌≡◌ {A = ℕ} 0 1 = cc in omega arith)
      go (accepted es rest) f h =
          let w = log_read links s es rest f in
          let same : log ≡ held es = cc in
          let m : es ≡ model_of log = sym (model_held es) ∙ ap model_of (sym same) in
          record {
            reads = f ∙ (λ i. accepted (m i) (w.nothing_left i));
            given = subst (Given links) m (given links es rest some w);
            few = omega (arith, w.few, ap (λ (x : Log). x.count) same);
          }
