-- What a link adds to the bound of a cut.
use Rattle.std.specs.Prelude.{◌≡◌, ℕ, ◌*◌, ◌<◌, ◌^◌}
use Rattle.flows.specs.Cut.{slack_of, counted}

-- "capacity × slack", and so small that 256 of them fit 64 bits
pub record IsAddend (end start capacity transit addend : ℕ) : Type 0 where
  pub is : addend ≡ capacity * counted (slack_of end start transit)
  pub small : addend < 2 ^ 46
