-- The longest network record: as many links as may be, each number at its limit.
use Rattle.std.specs.Prelude.{ℕ, ◌+◌, ◌-◌, ◌*◌}
use Rattle.limits.specs.Limits.{most_places, most_links, most_capacity, most_transit}
use Rattle.numbers.specs.Writing.{width}

unfoldable pub longest_link : ℕ
longest_link = width (most_places - 1) + width (most_places - 1) + width most_capacity + width most_transit

unfoldable pub longest_network_record : ℕ
longest_network_record = width most_places + width (most_places - 1) + width (most_places - 1) + width most_links + most_links * longest_link
