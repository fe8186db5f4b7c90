-- The table of 1028 numbers that stands for a network in the C interface: the numbers of its record, in record order ("places, origin,
-- destination, links; then for each link its start, end, capacity, transit"), with room for 256 links.
use Rattle.std.specs.Prelude.{List, ◌++◌, ℕ, ◌+◌, ◌-◌, ◌*◌, length, get_or, take, replicate}
use Rattle.refusals.specs.Numbers.{number_of}
use Rattle.limits.specs.Limits.{most_links}
use Rattle.numbers.specs.Leb128.{encode}
use Rattle.numbers.specs.Field.{Parse, refused, accepted}
use Rattle.flows.specs.Network as model
use Rattle.network.specs.Record.{numbers_of, network_of}
use Rattle.network_writer.specs.Write.{writing_refusal}

abbrev pub table_size : ℕ
table_size = 4 + 4 * most_links

----- Reading

-- the table of a network: its record's numbers, then zeros
unfoldable pub table_of : model.Network → List ℕ
table_of N = numbers_of N ++ replicate (table_size - length (numbers_of N)) 0

-- the number that reading answers: 0 if the record is read
unfoldable pub read_refusal : Parse model.Network → ℕ
read_refusal (refused e) = number_of e
read_refusal (accepted N rest) = 0

-- the table after reading: "a refused call gives .. unchanged buffers"
unfoldable pub table_after : Parse model.Network → List ℕ → List ℕ
table_after (refused e) before = before
table_after (accepted N rest) before = table_of N

----- Writing

-- the numbers of a table that its record holds: the first four, and four for each link
abbrev pub record_numbers : List ℕ → List ℕ
record_numbers table = take (4 + 4 * get_or table 3 0) table

-- the record of these numbers
unfoldable pub table_record : List ℕ → List ℕ
table_record table = encode (record_numbers table)

-- the number that writing answers: the refusal of the network whose numbers these are, 0 if it is written
unfoldable pub table_refusal : List ℕ → List ℕ → ℕ
table_refusal table buffer = writing_refusal (network_of table) (length buffer)
