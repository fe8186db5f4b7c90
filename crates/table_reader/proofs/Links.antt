-- A struct made of a table's first four numbers and its links holds the network of the table's numbers, position by position.
-- Assumes nothing.
use mathlib.Core.Path.{◌≡◌, refl, sym, ap, ◌∙◌}
use mathlib.Core.List.{List}
use Prim.Native.Nat.{ℕ, ◌+◌, ◌*◌, ◌≤◌, ◌<◌}
use native.Mathlib.Omega.{arith}
use native.Mathlib.Decide.{dec_lt}
use lib.ListN.{length, get_or, get_or-eq_default}
use Rattle.limits.specs.Limits.{most_links}
use Rattle.flows.specs.declared.Link.{Link}
use Rattle.flows.specs.Network.{no_link}
use Rattle.network.specs.Record.{network_of}
use Rattle.network.specs.Held.{model_of}
use Rattle.network.proofs.Listed.{listed_network}
use Rattle.tables.specs.Table.{table_size}
use Rattle.table_reader.specs.Links.{link_in}

-- these links stand in a table
pub record Read (numbers : List ℕ) (links : List Link) : Type 0 where
  pub size : length links ≡ most_links
  pub is : (e : ℕ) → e < most_links → get_or links e no_link ≡ link_in numbers e

module _ (numbers : List ℕ) (links : List Link) (l : length numbers ≡ table_size) (r : Read numbers links) where
  -- a number of a table stands in its link: past the last link neither has one
  stands : (f : Link → ℕ) (p q e : ℕ) → f no_link ≡ 0 → 4 * e + 4 ≤ p → p ≡ q → f (link_in numbers e) ≡ get_or numbers q 0
      → get_or numbers p 0 ≡ f (get_or links e no_link)
  stands f p q e z above same at = elim (dec_lt e most_links) [
    | yes t ↦ ap (λ (k : ℕ). get_or numbers k 0) same ∙ sym at ∙ sym (ap f (r.is e t))
    | no g ↦ get_or-eq_default numbers 0 {n = p} (omega arith) ∙ sym (ap f (get_or-eq_default links no_link {n = e} (omega (arith, r.size))) ∙ z)
  ]

  -- a struct of a table's first four numbers and its links holds the network of the table's numbers
  pub links_network : model_of (record {
    places = get_or numbers 0 0;
    origin = get_or numbers 1 0;
    destination = get_or numbers 2 0;
    count = get_or numbers 3 0;
    links = links;
  }) ≡ network_of numbers
  links_network =
      sym (listed_network _ numbers (record {
        places = refl;
        origin = refl;
        destination = refl;
        links = refl;
        start = λ e h. stands (λ k. k.start) (4 + 4 * e) (4 * e + 4) e refl (omega arith) (omega arith) refl;
        end = λ e h. stands (λ k. k.end) (5 + 4 * e) (4 * e + 4 + 1) e refl (omega arith) (omega arith) refl;
        capacity = λ e h. stands (λ k. k.capacity) (6 + 4 * e) (4 * e + 4 + 2) e refl (omega arith) (omega arith) refl;
        transit = λ e h. stands (λ k. k.transit) (7 + 4 * e) (4 * e + 4 + 3) e refl (omega arith) (omega arith) refl;
      }))
