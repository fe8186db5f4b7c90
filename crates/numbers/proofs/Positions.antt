-- Laws of a number that stands at a position of a slice: the octets that remain after it are those from a later position on.
-- Assumes nothing.
use mathlib.Core.Path.{◌≡◌, refl, sym, ap, ◌∙◌}
use mathlib.Core.List.{List}
use Prim.Native.Nat.{ℕ, ◌+◌, ◌-◌, ◌^◌, ◌≤◌, ◌<◌}
use native.Mathlib.Omega.{arith}
use lib.ListN.{length, drop, length-append, length-drop}
use lib.Seq.{drop_at, drop-drop}
use Rattle.std.specs.Prelude.{Ok}
use Rattle.numbers.specs.declared.Part.{Part}
use Rattle.numbers.specs.Leb128.{Reading, endless, ended, padded, is, read_groups}
use Rattle.numbers.specs.Position.{number_answer, groups_at}
use Rattle.numbers.proofs.Groups.{read_below, Taken, read_taken}

-- a position after another one, from which on the octets are those that remain
pub record Follows (s : List ℕ) (at next : ℕ) (rest : List ℕ) : Type 0 where
  pub later : at < next
  pub inside : next ≤ length s
  pub drops : drop next s ≡ rest

-- what reads from a position and takes octets comes to a position after it: where as many octets remain
pub follows : (s : List ℕ) (at : ℕ) (rest : List ℕ) → Taken (drop at s) rest → Follows s at (length s - length rest) rest
follows s at rest t =
    let l : length s - at ≡ length t.front + length rest = sym (length-drop at s) ∙ ap length t.split ∙ length-append t.front rest in
    let e : length s - length rest ≡ at + length t.front = omega arith in
    record {
      later = omega arith;
      inside = omega arith;
      drops = rw e (sym (drop-drop (length t.front) at s) ∙ ap (drop (length t.front)) t.split ∙ drop_at t.front rest (length t.front) refl);
    }

-- a number that stands at a position: what was read there, with the octets after it
pub record Stands (k : ℕ) (s : List ℕ) (at n next : ℕ) : Type 0 where
  pub reads : read_groups k (drop at s) ≡ is n (drop next s)
  pub later : at < next
  pub inside : next ≤ length s
  pub below : n < 128 ^ k

pub stands : (k : ℕ) (s : List ℕ) (at n : ℕ) (rest : List ℕ) → read_groups k (drop at s) ≡ is n rest → Stands k s at n (length s - length rest)
stands k s at n rest g =
    let f = follows s at rest (read_taken k (drop at s) n rest g) in
    record { reads = g ∙ ap (is n) (sym f.drops); later = f.later; inside = f.inside; below = read_below k (drop at s) n rest g }

answer_is : (k : ℕ) (s : List ℕ) (at n next : ℕ) (r : Reading) → read_groups k (drop at s) ≡ r → number_answer (length s) r ≡ Ok (record { value = n; next = next }) → Stands k s at n next
unfolding number_answer
answer_is k s at n next endless g h = absurd (let z : ◌≡◌ {A = ℕ} 0 1 = cc in omega arith)
answer_is k s at n next ended g h = absurd (let z : ◌≡◌ {A = ℕ} 0 1 = cc in omega arith)
answer_is k s at n next padded g h = absurd (let z : ◌≡◌ {A = ℕ} 0 1 = cc in omega arith)
answer_is k s at n next (is m rest) g h =
    let q : ◌≡◌ {A = Part ℕ} (record { value = m; next = length s - length rest }) (record { value = n; next = next }) = cc in
    let a : m ≡ n = ap (λ (x : Part ℕ). x.value) q in
    let b : length s - length rest ≡ next = ap (λ (x : Part ℕ). x.next) q in
    rw (← a, ← b) (stands k s at m rest g)

pub groups_is : (k : ℕ) (s : List ℕ) (at n next : ℕ) → groups_at k s at ≡ Ok (record { value = n; next = next }) → Stands k s at n next
unfolding groups_at
groups_is k s at n next h = answer_is k s at n next (read_groups k (drop at s)) refl h
