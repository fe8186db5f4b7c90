-- `loads::swept_from` meets its contract. The loop's invariant: no link passed has a use that is over, and the room lent is as large as it was.
-- Assumes nothing.
use mathlib.Core.Path.{◌≡◌}
use mathlib.Core.List.{List}
use Prim.Native.Nat.{ℕ}
use lib.ListN.{length}
use Rattle.flows.specs.declared.Link.{Link}
use Rattle.row_uses.specs.Files.{lent_of}
use Rattle.row_uses.specs.Uses.{Columns}
use Rattle.loads.specs.Passed.{NoneBelow}
use Rattle.loads.proofs.swept_from.Given as goal

pub record Testing (c : Columns) (links : List Link) (head starts ends : List ℕ) (e : ℕ) : Type 0 where
  pub none : NoneBelow c links head e
  pub starts-size : length starts ≡ 8224
  pub ends-size : length ends ≡ 8224

abbrev pub invariant-loop-e : goal.invariant-loop-e
invariant-loop-e l = Testing (lent_of l.filed.uses) l.network.links l.filed.head.now l.starts l.ends l.e
