-- What the code works with: for a place what is due at each entry. No promise names these.
use Rattle.std.specs.Prelude.{List, Bool, not, ◌&&◌, ℕ, suc, ◌≤◌, ◌<◌, length, ltb, eqb}
use Rattle.flows.specs.Sums.{sum, only, some}
use Rattle.network.specs.declared.Network.{Network}
use Rattle.network.specs.Held.{link_at}
use Rattle.logs.specs.declared.Entry.{Entry}
use Rattle.logs.specs.Columns.{nth, link_of, blocks_of, puts}

-- for each entry a number of an entry, or the number of entries
abbrev pub Numbered : List Entry → List ℕ → Type 0
Numbered es first = (i : ℕ) → i < length es → nth first i ≤ length es

-- where the link of an entry starts, and where it ends
abbrev pub start_of : Network → List Entry → ℕ → ℕ
start_of net es i = (link_at net (link_of es i)).start

abbrev pub end_of : Network → List Entry → ℕ → ℕ
end_of net es i = (link_at net (link_of es i)).end

-- the blocks that the first n entries put at the place v at each number
abbrev pub due_to : ℕ → ℕ → Network → List Entry → List ℕ → ℕ → ℕ
due_to v n net es first x = puts (end_of net es) (nth first) (blocks_of es) n v x

-- the blocks that are due at the place v at each number
abbrev pub due_at : ℕ → Network → List Entry → List ℕ → ℕ → ℕ
due_at v net es first x = due_to v (length es) net es first x

-- by some entry the place v has sent more than was due at the entries up to it
unfoldable pub sends_more : ℕ → Network → List Entry → (ℕ → ℕ) → Bool
sends_more v net es due =
    some (λ i. ltb (sum due (suc i)) (sum (λ j. only (start_of net es j) v (blocks_of es j)) (suc i))) (length es)

-- a place but the origin does
unfoldable pub place_fails : ℕ → Network → List Entry → List ℕ → Bool
place_fails v net es first = not (eqb v net.origin) && sends_more v net es (due_at v net es first)
