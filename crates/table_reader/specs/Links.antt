-- What the code's parts answer: a link of a table.
use Rattle.std.specs.Prelude.{List, ℕ, ◌+◌, ◌*◌, get_or}
use Rattle.flows.specs.declared.Link.{Link}

-- link e of a table: four numbers, one after another
abbrev pub link_in : List ℕ → ℕ → Link
link_in numbers e = record {
  start = get_or numbers (4 * e + 4) 0;
  end = get_or numbers (4 * e + 4 + 1) 0;
  capacity = get_or numbers (4 * e + 4 + 2) 0;
  transit = get_or numbers (4 * e + 4 + 3) 0;
}
