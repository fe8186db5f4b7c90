-- Document 01's table of limits, and document 02's: the one home of these numbers in the definitions.
use Rattle.std.specs.Prelude.{ℕ, ◌*◌}

abbrev pub fewest_places : ℕ
fewest_places = 2

abbrev pub most_places : ℕ
most_places = 64

abbrev pub fewest_links : ℕ
fewest_links = 1

abbrev pub most_links : ℕ
most_links = 256

abbrev pub most_capacity : ℕ
most_capacity = 10000

abbrev pub most_transit : ℕ
most_transit = 1000

abbrev pub least_amount : ℕ
least_amount = 1

abbrev pub most_amount : ℕ
most_amount = 100000000

-- "T, from 1"
abbrev pub least_plan_horizon : ℕ
least_plan_horizon = 1

-- the longest horizon to be tried
abbrev pub longest_horizon : ℕ
longest_horizon = 100063000

-- "T, from 1 to 100,063,000"
abbrev pub longest_plan_horizon : ℕ
longest_plan_horizon = 100063000

-- "the cut .., one number per place, each up to 100,063,000"
abbrev pub most_cut_number : ℕ
most_cut_number = 100063000

-- "first slot (from 0), departures (from 1), the last two up to 100,063,000"
abbrev pub latest_first : ℕ
latest_first = 100063000

abbrev pub most_departures : ℕ
most_departures = 100063000

abbrev pub fewest_rows : ℕ
fewest_rows = 1

abbrev pub most_rows : ℕ
most_rows = 257

abbrev pub fewest_row_links : ℕ
fewest_row_links = 1

abbrev pub most_row_links : ℕ
most_row_links = 63

-- a row's length, "0 to 63,000": as many links as a row may have, each with the longest transit
abbrev pub longest_length : ℕ
longest_length = most_row_links * most_transit

abbrev pub least_rate : ℕ
least_rate = 1

abbrev pub most_rate : ℕ
most_rate = 10000

abbrev pub least_departures : ℕ
least_departures = 1

-- the network record that a plan carries: "a length above 1,541 under 17"; `network_writer` has the law that no record is longer
abbrev pub most_network_octets : ℕ
most_network_octets = 1541

-- the octets that planning asks to be lent
abbrev pub plan_buffer : ℕ
plan_buffer = 38912

-- ---- a link's log (document 02)

-- "20 .. or is the 4,097th"
abbrev pub most_log_entries : ℕ
most_log_entries = 4096

-- "a block count from 0 to 10,000"
abbrev pub most_log_blocks : ℕ
most_log_blocks = 10000

-- "a slot counter modulo 4,294,967,296"
abbrev pub stamp_rollover : ℕ
stamp_rollover = 4294967296

-- "21 its distance is 2,147,483,648 or more"
abbrev pub far_stamp : ℕ
far_stamp = 2147483648

-- "22 its slot is above 100,063,000"
abbrev pub latest_logged_slot : ℕ
latest_logged_slot = 100063000
