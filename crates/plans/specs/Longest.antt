-- The longest plan record: as many places, rows and links of a row as may be, each number at its limit; `longestPlanRecord` is its length
-- from the amount on, and `longestCarrying` that of the whole, with the longest network record before it.
use Rattle.std.specs.Prelude.{ℕ, ◌+◌, ◌-◌, ◌*◌}
use Rattle.limits.specs.Limits.{most_places, most_links, most_network_octets, most_amount, longest_plan_horizon, most_cut_number, most_rows, most_row_links, longest_length, most_rate, latest_first, most_departures}
use Rattle.numbers.specs.Writing.{width}

unfoldable pub longest_row : ℕ
longest_row =
    width most_row_links + most_row_links * width (most_links - 1) + width longest_length + width most_rate + width latest_first + width most_departures

unfoldable pub longest_plan_record : ℕ
longest_plan_record =
    width most_amount + width longest_plan_horizon + most_places * width most_cut_number + width most_rows + most_rows * longest_row

unfoldable pub longest_carrying : ℕ
longest_carrying = width most_network_octets + most_network_octets + longest_plan_record
