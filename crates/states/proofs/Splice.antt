-- A list with its first numbers from another, number by number: a store at the seam moves the seam on. Assumes nothing.
use mathlib.Core.Path.{◌≡◌, sym, ap, ◌∙◌}
use mathlib.Core.List.{List, ◌++◌, append-nil}
use Prim.Native.Nat.{ℕ, suc, ◌+◌, ◌≤◌, ◌<◌}
use native.Mathlib.Omega.{arith}
use native.Mathlib.Numerals.{add-one}
use lib.ListN.{length, get_or, set, take, drop, length-append, length-take, length-drop}
use lib.Seq.{length-take-le, take-suc, drop-cons, append_snoc, set_at, take_at, drop_at, take-length, drop-length}
use Rattle.states.specs.Steps.{spliced}

module _ (n : ℕ) (s d : List ℕ) where
  pub spliced_step : n < length s → n < length d → set (spliced n s d) n (get_or s n 0) ≡ spliced (n + 1) s d
  spliced_step i j =
      rw (add-one, drop-cons d n 0 j, take-suc s n 0 i)
      (set_at (take n s) (get_or d n 0) (drop (suc n) d) (get_or s n 0) n (length-take-le n s (omega arith))
      ∙ sym (append_snoc (take n s) (get_or s n 0) (drop (suc n) d)))

  pub length_spliced : n ≤ length s → n ≤ length d → length (spliced n s d) ≡ length d
  length_spliced i j = simp (length-append, length-take, length-drop) (omega arith)

  pub take_spliced : n ≤ length s → take n (spliced n s d) ≡ take n s
  take_spliced i = take_at (take n s) (drop n d) n (length-take-le n s i)

  pub drop_spliced : n ≤ length s → drop n (spliced n s d) ≡ drop n d
  drop_spliced i = drop_at (take n s) (drop n d) n (length-take-le n s i)

pub spliced_all : (n : ℕ) (s d : List ℕ) → n ≡ length s → n ≡ length d → spliced n s d ≡ s
spliced_all n s d i j = rw i (ap (λ (t : List ℕ). t ++ drop (length s) d) (take-length s) ∙ ap (λ (t : List ℕ). s ++ t) (ap (λ (k : ℕ). drop k d) (sym i ∙ j) ∙ drop-length d) ∙ append-nil s)
