-- What a plan that carries its network opens with, and what writing it asks of the network's record and of the buffer.
use Rattle.std.specs.Prelude.{List, ◌++◌, ℕ, ◌≤◌, length}
use Rattle.limits.specs.Limits.{most_network_octets}
use Rattle.numbers.specs.Leb128.{groups, shortest}

-- the record's length, and the record
unfoldable pub opening : List ℕ → List ℕ
opening network = shortest groups (length network) ++ network

pub record Carriable (network : List ℕ) (buffer : List ℕ) : Type 0 where
  pub short : length network ≤ most_network_octets
  pub room : length (opening network) ≤ length buffer
