-- `use_lists::list_chain` meets its contract. The loop's invariant: what is listed and the chain still to come are the chain. Assumes nothing.
use mathlib.Core.Path.{◌≡◌}
use mathlib.Core.List.{List}
use Prim.Native.Nat.{ℕ, ◌≤◌}
use lib.ListN.{length}
use Rattle.use_lists.proofs.Listing.{Listing}
use Rattle.use_lists.proofs.list_chain.Given as goal

pub record ListingIn (prev : List ℕ) (start : ℕ) (before after : List ℕ) (count k : ℕ) : Type 0 where
  pub within : count ≤ length before
  pub size : length after ≡ length before
  pub listing : Listing prev start after count k

abbrev pub invariant-loop-k : goal.invariant-loop-k
invariant-loop-k l = ListingIn l.prev l.start l.initial.order l.order l.count l.k

abbrev pub decreases-loop-k : goal.decreases-loop-k
decreases-loop-k l = l.k
