-- The sum of the transits of links, by the array of links of a network's struct.
use Rattle.std.specs.Prelude.{List, [], ◌∷◌, ℕ, ◌+◌, ◌≤◌, ◌<◌, get_or}
use Rattle.limits.specs.Limits.{most_links, most_row_links, most_transit}
use Rattle.flows.specs.declared.Link.{Link}
use Rattle.flows.specs.Network.{no_link}

abbrev pub lasting : List Link → List ℕ → ℕ
lasting table [] = 0
lasting table (e ∷ es) = (get_or table e no_link).transit + lasting table es

-- so many links at the head of an array, each a link of the table whose transit is within its limits
pub record Timed (table : List Link) (links : List ℕ) (count : ℕ) : Type 0 where
  pub size : count ≤ most_row_links
  pub few : (j : ℕ) → j < count → get_or links j 0 < most_links
  pub brief : (j : ℕ) → j < count → (get_or table (get_or links j 0) no_link).transit ≤ most_transit
