-- The C interface's table and the record determine each other: a record that is read into a table is written back to the same octets, and
-- a table that is written is read back with the same numbers. By the same facts on networks and their records. Assumes nothing.
use mathlib.Core.Path.{◌≡◌, refl, sym, ap, ◌∙◌}
use mathlib.Core.List.{List, [], ◌++◌}
use Prim.Native.Nat.{ℕ, ◌-◌, ◌≤◌}
use native.Mathlib.Omega.{arith}
use lib.ListN.{length, take, replicate}
use lib.Seq.{take_at, take-append_seam}
use Rattle.numbers.specs.Leb128.{Octets, encode, over}
use Rattle.numbers.specs.Field.{accepted}
use Rattle.flows.specs.Network as model
use Rattle.network.specs.Record.{read_network, numbers_of, record_of, network_of}
use Rattle.network_writer.specs.Write.{writing_refusal, length_after, buffer_after}
use Rattle.network_writer.proofs.Writing.{writing_none, writing_fine}
use Rattle.network.proofs.WellFormed.{well_formed}
use Rattle.network.proofs.Listed.{length_numbers_of, network_numbers, numbers_network, count_numbers}
use Rattle.network_writer.proofs.RoundTrip.{read_is_record, record_is_read}
use Rattle.tables.specs.Table.{table_size, table_of, read_refusal, table_after, record_numbers, table_record, table_refusal}
use Rattle.tables.proofs.TableTold.{record_told}

-- writing a table to a buffer gives these octets: the refusal, the length and the buffer that `pudeyan_write_network` promises
pub record Wrote (table buffer octets : List ℕ) : Type 0 where
  pub not_refused : table_refusal table buffer ≡ 0
  pub length_told : length_after (table_refusal table buffer) (table_record table) ≡ length octets
  pub written : buffer_after (table_refusal table buffer) (table_record table) buffer ≡ over octets buffer

module _ (N : model.Network) where
  network_table : network_of (table_of N) ≡ N
  unfolding table_of
  network_table = network_numbers N (replicate (table_size - length (numbers_of N)) 0)

  -- the numbers of a network's table that its record holds
  numbers_table : record_numbers (table_of N) ≡ numbers_of N
  unfolding table_of
  numbers_table = take_at (numbers_of N) (replicate (table_size - length (numbers_of N)) 0) _ (length_numbers_of N)

-- Read, then write: what is read into a table is written back to the same octets, into every buffer that has room for them.
pub read_then_write : (s : List ℕ) (N : model.Network) (rest before buffer : List ℕ) → Octets s → read_network s ≡ accepted N rest → length s ≤ length buffer
    → Wrote (table_after (read_network s) before) buffer s
unfolding table_after table_refusal table_record record_of
read_then_write s N rest before buffer o h l =
    let e : record_of N ≡ s = read_is_record s N rest o h in
    let r : table_record (table_of N) ≡ s = ap encode (numbers_table N) ∙ e in
    let z : table_refusal (table_of N) buffer ≡ 0 =
    ap (λ (M : model.Network). writing_refusal M (length buffer)) (network_table N)
    ∙ writing_fine N (length buffer) (well_formed s N rest h) (omega (arith, ap length e)) in
    rw h (record {
      not_refused = z;
      length_told = rw z (ap length r);
      written = rw z (ap (λ (t : List ℕ). over t buffer) r);
    })

-- Write, then read: the octets written are read back into the numbers that the record holds, and zeros after them.
pub write_then_read : (table buffer before : List ℕ) → length table ≡ table_size → table_refusal table buffer ≡ 0
    → (octets : List ℕ) → octets ≡ take (length_after (table_refusal table buffer) (table_record table)) (buffer_after (table_refusal table buffer) (table_record table) buffer)
    → (read_refusal (read_network octets) ≡ 0)
    × (table_after (read_network octets) before ≡ record_numbers table ++ replicate (table_size - length (record_numbers table)) 0)
unfolding read_refusal table_after table_of table_refusal
write_then_read table buffer before l z octets is =
    let w = writing_none (network_of table) (length buffer) z in
    let n : numbers_of (network_of table) ≡ record_numbers table = numbers_network table (omega (arith, w.0.links_most, count_numbers table)) in
    let t : octets ≡ table_record table = is ∙ rw z (take-append_seam (table_record table) _) in
    let r : read_network octets ≡ accepted (network_of table) [] =
    ap read_network (t ∙ sym (record_told table (length buffer) l z)) ∙ record_is_read (network_of table) w.0 in
    rw r (refl, ap (λ (ns : List ℕ). ns ++ replicate (table_size - length ns) 0) n)
