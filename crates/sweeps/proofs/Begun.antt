-- Rates from a slot on: a use that has begun is under way or has ended, so that what has begun on a chain is its load and what has ended. Assumes nothing.
use mathlib.Core.Path.{◌≡◌, refl, sym, ap, ◌∙◌}
use mathlib.Core.List.{List}
use Prim.Native.Nat.{ℕ, zero, suc, ◌+◌}
use native.Mathlib.Omega.{arith}
use native.Mathlib.Decide.{dec_le, dec_lt}
use lib.ListN.{get_or}
use borrow.Author.Tests.{le-leb, lt-leb, lt-ltb, le-ltb}
use Rattle.flows.specs.Rows.{Use}
use Rattle.flows.proofs.Sums.{only_same}
use Rattle.flows.proofs.Uses.{window, enters_only}
use Rattle.row_uses.specs.Uses.{Columns, entry_in, use_in, along, chain, puts, load_on, Orderly}
use Rattle.row_uses.proofs.Chain.{chain_eq}
use Rattle.sweeps.specs.Sweeps.{from}

-- a use that has begun is under way or has ended
begun_is : (u : Use) (slot : ℕ) → from u.entry u.rate slot ≡ window u slot + from (u.entry + u.departures) u.rate slot
unfolding window
begun_is u slot =
    elim (dec_le u.entry slot) [
      | no n ↦ rw (lt-leb u.entry slot (omega arith), lt-leb (u.entry + u.departures) slot (omega arith)) (omega arith)
      | yes h ↦
          elim (dec_lt slot (u.entry + u.departures)) [
            | yes k ↦
                rw (le-leb u.entry slot h, lt-ltb slot (u.entry + u.departures) k, lt-leb (u.entry + u.departures) slot k) (omega arith)
            | no k ↦
                rw (
                  le-leb u.entry slot h,
                  le-ltb slot (u.entry + u.departures) (omega arith),
                  le-leb (u.entry + u.departures) slot (omega arith),
                ) (omega arith)
          ]
    ]

pub puts_is : (c : Columns) (slot m : ℕ)
    → from (entry_in c m) (use_in c 0 m).rate slot
    ≡ puts c slot m + from (entry_in c m + (use_in c 0 m).departures) (use_in c 0 m).rate slot
puts_is c slot m =
    begun_is (use_in c 0 m) slot
    ∙ ap (λ (x : ℕ). x + from (entry_in c m + (use_in c 0 m).departures) (use_in c 0 m).rate slot)
    (sym (enters_only (use_in c 0 m) 0 slot ∙ only_same 0 (window (use_in c 0 m) slot)))

-- two sums along a chain
along_add : (prev : List ℕ) (g h : ℕ → ℕ) (f k : ℕ) → along prev (λ m. g m + h m) f k ≡ along prev g f k + along prev h f k
unfolding along
along_add prev g h zero k = refl
along_add prev g h (suc f) zero = refl
along_add prev g h (suc f) (suc m) = omega (arith, along_add prev g h f (get_or prev m 0))

pub chain_begun : (c : Columns) → Orderly c → (slot k : ℕ)
    → chain c.prev (λ m. from (entry_in c m) (use_in c 0 m).rate slot) k
    ≡ load_on c k slot + chain c.prev (λ m. from (entry_in c m + (use_in c 0 m).departures) (use_in c 0 m).rate slot) k
chain_begun c orderly slot k =
    chain_eq c.prev orderly.falls _ _ k (λ m l. puts_is c slot m)
    ∙ along_add c.prev (puts c slot) (λ m. from (entry_in c m + (use_in c 0 m).departures) (use_in c 0 m).rate slot) k k
