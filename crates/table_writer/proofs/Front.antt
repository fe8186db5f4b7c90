-- A store at the seam of a table moves the seam on, and the table of a network's struct is the network's numbers, then zeros.
-- Assumes nothing.
use mathlib.Core.Path.{◌≡◌, refl, sym, ap, ◌∙◌}
use mathlib.Core.List.{List, [], ◌∷◌, ◌++◌}
use Prim.Native.Nat.{ℕ, suc, ◌+◌, ◌-◌, ◌*◌, ◌≤◌, ◌<◌}
use native.Mathlib.Omega.{arith}
use native.Mathlib.Numerals.{add-one}
use lib.ListN.{length, set, replicate}
use Rattle.limits.specs.Limits.{most_links}
use Rattle.numbers.specs.Leb128.{over}
use Rattle.numbers.proofs.Written.{over_all, over_four}
use Rattle.flows.specs.declared.Link.{Link}
use Rattle.flows.specs.Network.{count}
use Rattle.flows.specs.Network as model
use Rattle.network.specs.declared.Network.{Network}
use Rattle.network.specs.Record.{link_numbers, numbers_of}
use Rattle.network.specs.Held.{with_links, held, link_at, links_below}
use Rattle.network.proofs.Model.{length_links}
use Rattle.network.proofs.Listed.{link_numbers_more, length_link_numbers, length_numbers_of, numbers_held}
use Rattle.tables.specs.Table.{table_size, table_of}
use Rattle.table_writer.specs.Front.{front}

-- a link's numbers in record order
abbrev four : Link → List ℕ
four l = l.start ∷ l.end ∷ l.capacity ∷ l.transit ∷ []

length_front : (net : Network) (n : ℕ) → length (front net n) ≡ 4 + 4 * n
unfolding front
length_front net n = omega (arith, length_link_numbers (links_below net n), length_links net n)

-- with its first four numbers, with one more link, and whole
pub front_none : (net : Network) (b ns : List ℕ) → ns ≡ b → 3 < length b
    → set (set (set (set ns 0 net.places) 1 net.origin) 2 net.destination) 3 net.count ≡ over (front net 0) b
unfolding front
front_none net b ns s h = over_four [] b ns 0 net.places net.origin net.destination net.count s refl h

pub front_step : (net : Network) (n at : ℕ) (b ns : List ℕ) → ns ≡ over (front net n) b → at ≡ 4 * n + 4 → at + 3 < length b
    → set (set (set (set ns at (link_at net n).start) (at + 1) (link_at net n).end) (at + 2) (link_at net n).capacity) (at + 3) (link_at net n).transit
    ≡ over (front net (n + 1)) b
unfolding front
front_step net n at b ns s l h =
    let next : front net n ++ four (link_at net n) ≡ front net (suc n) = ap (λ (r : List ℕ). net.places ∷ net.origin ∷ net.destination ∷ net.count ∷ r) (sym (link_numbers_more (links_below net n) (link_at net n))) in
    over_four (front net n) b ns at (link_at net n).start (link_at net n).end (link_at net n).capacity (link_at net n).transit s
    (omega (arith, length_front net n)) h
    ∙ ap (λ (r : List ℕ). over r b) (next ∙ ap (front net) (sym (add-one n)))

pub front_all : (net : Network) (n : ℕ) (b ns : List ℕ) → ns ≡ over (front net n) b → n ≡ most_links → length b ≡ table_size → ns ≡ front net most_links
front_all net n b ns s e l = s ∙ over_all (front net n) b (omega (arith, length_front net n)) ∙ ap (front net) e

-- the whole table of a network's struct
pub front_held : (N : model.Network) → count N ≤ most_links → front (held N) most_links ≡ table_of N
unfolding front table_of held with_links
front_held N h =
    let m = most_links - count N in
    let q : most_links ≡ count N + m = omega arith in
    let p : 4 * m ≡ table_size - length (numbers_of N) = omega (arith, length_numbers_of N) in
    ap (λ (r : List ℕ). N.places ∷ N.origin ∷ N.destination ∷ count N ∷ r)
    (ap (λ (n : ℕ). link_numbers (links_below (held N) n)) q ∙ numbers_held N m ∙ ap (λ (n : ℕ). link_numbers N.links ++ replicate n 0) p)
